-- Codes: their two numbers, the text that a key spells, and what reading and printing come to.
use Rattle.std.proofs.Common.{◌≡◌, ℕ, ◌-◌, ◌/◌, ◌<◌, Bool, true, false, cond, ◌&&◌, eqb, ltb, List, ◌++◌, map, length, take, drop, sym}
use Rattle.std.proofs.Common.{refl, ap, ◌∙◌, subst, ap₂, le_of_eq, arith, length-drop, take-append-drop, length-take-le, take_all, take-add}
use Rattle.std.proofs.Common.{eq-eqb, eqb-true}
use mathlib.Core.Bool.{and-eq-true_iff}
use mathlib.Core.List.{map-append}
use lib.ListN.{length-map}
use lib.Arith.{digits_lt, digits_div}
use Rattle.std.specs.Prelude.{Ok}
use Rattle.model.specs.Results.{refused_with}
use Rattle.model.specs.Codes.{is_digit, is_letter, is_letter_or_digit, is_code, value, number, key_of, parse, digits, spelling, has_code}
use Rattle.model.specs.Codes.{print, text_below}
use Rattle.model.specs.Lists.{all}
use Rattle.list_laws.proofs.Tools.{all-append}
use Rattle.isrc.proofs.Digits.{Below, number-bound, read_on-number, digits-read_on, digits-number, number-below, readings-below}
use Rattle.isrc.proofs.Characters.{digit-is, letter-is, value-bound, digit-bound, every-imply, every-below, characters-values, values-order}

-- A slice from place k on holds the rest of the text.
pub rest : (k : ℕ) (text : List ℕ) → take (length text - k) (drop k text) ≡ drop k text
rest k text = take_all (length text - k) (drop k text) (le_of_eq (length-drop k text))

-- ---- a code's characters and numbers

-- what a code's first five and last seven characters count
abbrev pub high : List ℕ → List ℕ
high text = map value (take 5 text)

abbrev pub low : List ℕ → List ℕ
low text = map value (drop 5 text)

pub record Code (text : List ℕ) : Type 0 where
  pub long : length text ≡ 12
  pub front : all is_letter_or_digit (take 5 text) ≡ true
  pub back : all is_digit (drop 5 text) ≡ true

pub code : (text : List ℕ) → is_code text ≡ true → Code text
unfolding is_code
code text e =
    let t =
    (and-eq-true_iff (eqb (length text) 12 && all is_letter (take 2 text) && all is_letter_or_digit (take 3 (drop 2 text)))
    (all is_digit (drop 5 text))).0 e in
    let u = (and-eq-true_iff (eqb (length text) 12 && all is_letter (take 2 text)) (all is_letter_or_digit (take 3 (drop 2 text)))).0 t.0 in
    let v = (and-eq-true_iff (eqb (length text) 12) (all is_letter (take 2 text))).0 u.0 in
    let l = every-imply is_letter is_letter_or_digit letter-is (take 2 text) v.1 in
    record {
      long = eqb-true (length text) 12 v.0;
      front = rw (take-add 2 3 text) ((all-append is_letter_or_digit (take 2 text) (take 3 (drop 2 text))).1 (l, u.1));
      back = t.1;
    }

module _ (text : List ℕ) (c : Code text) where
  pub length-front : length (take 5 text) ≡ 5
  length-front = length-take-le 5 text (omega (arith, c.long))

  pub length-back : length (drop 5 text) ≡ 7
  length-back = length-drop 5 text ∙ rw c.long

  pub back-counted : all is_letter_or_digit (drop 5 text) ≡ true
  back-counted = every-imply is_digit is_letter_or_digit digit-is (drop 5 text) c.back

  all-counted : all is_letter_or_digit text ≡ true
  all-counted =
      subst (λ (l : List ℕ). all is_letter_or_digit l ≡ true) (take-append-drop 5 text)
      ((all-append is_letter_or_digit (take 5 text) (drop 5 text)).1 (c.front, back-counted))

  length-high : length (high text) ≡ 5
  length-high = length-map (take 5 text) value ∙ length-front

  length-low : length (low text) ≡ 7
  length-low = length-map (drop 5 text) value ∙ length-back

  high-below : Below 36 (high text)
  high-below = every-below is_letter_or_digit 36 value-bound (take 5 text) c.front

  low-below : Below 10 (low text)
  low-below = every-below is_digit 10 digit-bound (drop 5 text) c.back

  pub high-bound : number 36 (high text) < 60466176
  high-bound = rw length-high at (number-bound 36 (high text) high-below)

  pub low-bound : number 10 (low text) < 10000000
  low-bound = rw length-low at (number-bound 10 (low text) low-below)

  values : map value text ≡ high text ++ low text
  values = ap (map value) (sym (take-append-drop 5 text)) ∙ map-append value (take 5 text) (drop 5 text)

  pub key-below : key_of text < 604661760000000
  unfolding key_of
  key-below = digits_lt high-bound low-bound

  high-digits : digits 36 5 (key_of text / 10000000) ≡ high text
  unfolding key_of
  high-digits =
      rw (digits_div (number 36 (high text)) low-bound) (digits-number 36 5 (high text) (omega arith) high-below length-high)

  low-digits : digits 10 7 (key_of text) ≡ low text
  unfolding key_of
  low-digits =
      rw (read_on-number, length-low) at (digits-read_on 10 (number 36 (high text)) (low text) (omega arith) low-below)

  -- A code is what its key spells.
  pub spelling-key : spelling (key_of text) ≡ text
  unfolding spelling
  spelling-key = rw (high-digits, low-digits, ← values) (characters-values text all-counted)

module _ (a b : List ℕ) (c : Code a) (d : Code b) where
  pub codes-order : text_below a b ≡ ltb (key_of a) (key_of b)
  unfolding key_of
  codes-order =
      let t = number-below 10 (low a) (low b) (low-below a c) (low-below b d) (length-low a c ∙ sym (length-low b d)) in
      values-order a b (all-counted a c) (all-counted b d)
      ∙ ap₂ text_below (values a c) (values b d)
      ∙ readings-below 36 10000000 (number 10 (low a)) (number 10 (low b)) (high a) (high b) (low a) (low b)
      (high-below a c) (high-below b d)
      (length-high a c ∙ sym (length-high b d)) (low-bound a c) (low-bound b d) t

-- ---- what reading and printing come to

pub parse-code : (text : List ℕ) → is_code text ≡ true → parse text ≡ Ok (key_of text)
unfolding parse
parse-code text e = rw e

-- a text that is no code is refused with 1
pub parse-other : (text : List ℕ) → is_code text ≡ false → parse text ≡ refused_with 1
unfolding parse
parse-other text e = rw e

read-by : (b : Bool) (n k : ℕ) → cond b (Ok n) (refused_with 1) ≡ Ok k → (b ≡ true) × (n ≡ k)
read-by true n k e = (refl, cc)
read-by false n k e = let z : ◌≡◌ {A = ℕ} 0 1 = cc in absurd (omega arith)

pub parsed : (text : List ℕ) (k : ℕ) → parse text ≡ Ok k → (is_code text ≡ true) × (key_of text ≡ k)
unfolding parse
parsed text k e = read-by (is_code text) (key_of text) k e

pub spelled : (k : ℕ) → has_code k ≡ true → (is_code (spelling k) ≡ true) × (key_of (spelling k) ≡ k)
unfolding has_code
spelled k e =
    let t = (and-eq-true_iff (is_code (spelling k)) (eqb (key_of (spelling k)) k)).0 e in
    (t.0, eqb-true (key_of (spelling k)) k t.1)

pub key-has-code : (text : List ℕ) → is_code text ≡ true → has_code (key_of text) ≡ true
unfolding has_code
key-has-code text e =
    rw (spelling-key text (code text e), e) (eq-eqb (key_of text) (key_of text) refl)

pub print-code : (k : ℕ) → has_code k ≡ true → print k ≡ Ok (spelling k)
unfolding print
print-code k e = rw e

pub print-other : (k : ℕ) → (has_code k ≡ true → ⊥) → print k ≡ refused_with 1
unfolding print
print-other k h = go (has_code k) refl
  where
    go : (b : Bool) → has_code k ≡ b → print k ≡ refused_with 1
    go true e = absurd (h e)
    go false e = rw e
