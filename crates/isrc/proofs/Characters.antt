-- Characters: what letters and digits count, alone and all along a text.
use Rattle.std.proofs.Common.{◌≡◌, ℕ, zero, suc, ◌+◌, ◌-◌, ◌*◌, ◌<◌, ◌≤◌, Bool, true, false, ◌&&◌, ◌||◌, eqb, ltb, leb, ◌⊎◌, List, [], ◌∷◌}
use Rattle.std.proofs.Common.{map, length, get_or, drop, sym, refl, ap, ◌∙◌, ap₂, inl, inr, ⊎_elim, add-one, arith, drop-cons, le-ltb}
use Rattle.std.proofs.Common.{lt-ltb, eq-eqb, ne_eqb, le-leb, leb-true}
use mathlib.Core.Bool.{and-eq-true_iff, and-false, or-true}
use native.Mathlib.Decide.{dec_lt}
use borrow.Author.Tests.{lt-leb}
use Rattle.model.specs.Codes.{is_digit, is_letter, is_letter_or_digit, value, read_on, character, text_below}
use Rattle.model.specs.Lists.{all}
use Rattle.list_laws.proofs.Tools.{Each-map, all-each}
use Rattle.isrc.proofs.Digits.{Below}

-- ---- one character

range : (low c high : ℕ) → (leb low c && leb c high) ≡ true → (low ≤ c) × (c ≤ high)
range low c high e =
    let t : (leb low c ≡ true) × (leb c high ≡ true) = (and-eq-true_iff (leb low c) (leb c high)).0 e in
    (leb-true low c t.0, leb-true c high t.1)

pub digit-range : (c : ℕ) → is_digit c ≡ true → (48 ≤ c) × (c ≤ 57)
unfolding is_digit
digit-range c e = range 48 c 57 e

pub letter-range : (c : ℕ) → is_letter c ≡ true → (65 ≤ c) × (c ≤ 90)
unfolding is_letter
letter-range c e = range 65 c 90 e

not-digit : (c : ℕ) → 57 < c → is_digit c ≡ false
unfolding is_digit
not-digit c h = rw (lt-leb c 57 h, and-false)

-- a digit's value is its character less 48
pub value-digit : (c : ℕ) → is_digit c ≡ true → value c ≡ c - 48
unfolding value
value-digit c e = rw e

pub value-other : (c : ℕ) → is_digit c ≡ false → value c ≡ c - 55
unfolding value
value-other c e = rw e

either : (a b : Bool) → (a || b) ≡ true → (a ≡ true) ⊎ (b ≡ true)
either true b e = inl refl
either false b e = inr e

-- A letter or digit as a number, with what it counts.
pub letter-or-digit : (c : ℕ) → is_letter_or_digit c ≡ true
    → ((65 ≤ c) × (c ≤ 90) × (value c ≡ c - 55)) ⊎ ((48 ≤ c) × (c ≤ 57) × (value c ≡ c - 48))
unfolding is_letter_or_digit
letter-or-digit c e = ⊎_elim letter digit (either (is_letter c) (is_digit c) e)
  where
    letter : is_letter c ≡ true → ((65 ≤ c) × (c ≤ 90) × (value c ≡ c - 55)) ⊎ ((48 ≤ c) × (c ≤ 57) × (value c ≡ c - 48))
    letter q = let r = letter-range c q in inl (r.0, r.1, value-other c (not-digit c (omega arith)))

    digit : is_digit c ≡ true → ((65 ≤ c) × (c ≤ 90) × (value c ≡ c - 55)) ⊎ ((48 ≤ c) × (c ≤ 57) × (value c ≡ c - 48))
    digit q = let r = digit-range c q in inr (r.0, r.1, value-digit c q)

pub in-digits : (c : ℕ) → 48 ≤ c → c ≤ 57 → value c ≡ c - 48
unfolding is_digit
in-digits c l h =
    let e : is_digit c ≡ true = rw (le-leb 48 c l, le-leb c 57 h) in
    value-digit c e

-- one that is no digit
pub in-letters : (c : ℕ) → is_letter_or_digit c ≡ true → (48 ≤ c → c ≤ 57 → ⊥) → (65 ≤ c) × (value c ≡ c - 55)
in-letters c e n = ⊎_elim (λ l. (l.0, l.2)) (λ d. absurd (n d.0 d.1)) (letter-or-digit c e)

pub digit-is : (c : ℕ) → is_digit c ≡ true → is_letter_or_digit c ≡ true
unfolding is_letter_or_digit
digit-is c e = rw (e, or-true)

pub letter-is : (c : ℕ) → is_letter c ≡ true → is_letter_or_digit c ≡ true
unfolding is_letter_or_digit
letter-is c e = rw e

pub value-bound : (c : ℕ) → is_letter_or_digit c ≡ true → value c < 36
value-bound c e = ⊎_elim (λ l. omega arith) (λ d. omega arith) (letter-or-digit c e)

pub digit-bound : (c : ℕ) → is_digit c ≡ true → value c < 10
digit-bound c e = omega (arith, digit-range c e, value-digit c e)

-- the character of a value below 10 is 48 more
pub character-small : (d : ℕ) → d < 10 → character d ≡ 48 + d
unfolding character
character-small d h = rw (lt-ltb d 10 h)

pub character-large : (d : ℕ) → 10 ≤ d → character d ≡ 55 + d
unfolding character
character-large d h = rw (le-ltb d 10 h)

pub character-value : (c : ℕ) → is_letter_or_digit c ≡ true → character (value c) ≡ c
character-value c e =
    ⊎_elim (λ l. omega (arith, character-large (value c) (omega arith))) (λ d. omega (arith, character-small (value c) (omega arith)))
    (letter-or-digit c e)

value-monotone : (c d : ℕ) → is_letter_or_digit c ≡ true → is_letter_or_digit d ≡ true → c < d → value c < value d
value-monotone c d e f h =
    ⊎_elim (λ l. ⊎_elim (λ m. omega arith) (λ m. omega arith) (letter-or-digit d f))
    (λ l. ⊎_elim (λ m. omega arith) (λ m. omega arith) (letter-or-digit d f))
    (letter-or-digit c e)

-- Letters and digits are in the order of what they count.
pub value-order : (c d : ℕ) → is_letter_or_digit c ≡ true → is_letter_or_digit d ≡ true
    → (ltb c d ≡ ltb (value c) (value d)) × (eqb c d ≡ eqb (value c) (value d))
value-order c d e f = go (dec_lt c d) (dec_lt d c)
  where
    go : Dec (c < d) → Dec (d < c) → (ltb c d ≡ ltb (value c) (value d)) × (eqb c d ≡ eqb (value c) (value d))
    go (yes h) q =
        let v = value-monotone c d e f h in
        (lt-ltb c d h ∙ sym (lt-ltb (value c) (value d) v), ne_eqb c d (omega arith) ∙ sym (ne_eqb (value c) (value d) (omega arith)))
    go (no g) (yes h) =
        let v = value-monotone d c f e h in (
          le-ltb c d (omega arith) ∙ sym (le-ltb (value c) (value d) (omega arith)),
          ne_eqb c d (omega arith)
              ∙ sym (ne_eqb (value c) (value d) (omega arith)),
        )
    go (no g) (no h) =
        let q : c ≡ d = omega arith in
        let v : value c ≡ value d = ap value q in
        (le-ltb c d (omega arith) ∙ sym (le-ltb (value c) (value d) (omega arith)), eq-eqb c d q ∙ sym (eq-eqb (value c) (value d) v))

-- ---- all characters of a text

pub every-cons : (p : ℕ → Bool) (c : ℕ) (cs : List ℕ) → all p (c ∷ cs) ≡ true → (p c ≡ true) × (all p cs ≡ true)
unfolding all
every-cons p c cs e = (and-eq-true_iff (p c) (all p cs)).0 e

pub every-get_d : (p : ℕ → Bool) (xs : List ℕ) (i : ℕ) → all p xs ≡ true → i < length xs → p (get_or xs i 0) ≡ true
every-get_d p [] i e h = absurd (omega arith)
every-get_d p (x ∷ xs) zero e h = (every-cons p x xs e).0
every-get_d p (x ∷ xs) (suc i) e h = every-get_d p xs i (every-cons p x xs e).1 (omega arith)

pub every-imply : (p q : ℕ → Bool) → ((c : ℕ) → p c ≡ true → q c ≡ true)
    → (xs : List ℕ) → all p xs ≡ true → all q xs ≡ true
every-imply p q h xs e = (all-each q xs).1 (Each-map _ _ xs h ((all-each p xs).0 e))

pub every-below : (p : ℕ → Bool) (b : ℕ) → ((c : ℕ) → p c ≡ true → value c < b)
    → (xs : List ℕ) → all p xs ≡ true → Below b (map value xs)
every-below p b h [] e = tt
every-below p b h (x ∷ xs) e =
    let t = every-cons p x xs e in
    (h x t.0, every-below p b h xs t.1)

pub characters-values : (xs : List ℕ) → all is_letter_or_digit xs ≡ true → map character (map value xs) ≡ xs
characters-values [] e = refl
characters-values (x ∷ xs) e =
    let t = every-cons is_letter_or_digit x xs e in
    ap₂ ◌∷◌ (character-value x t.0) (characters-values xs t.1)

pub values-order : (xs ys : List ℕ) → all is_letter_or_digit xs ≡ true → all is_letter_or_digit ys ≡ true
    → text_below xs ys ≡ text_below (map value xs) (map value ys)
unfolding text_below
values-order [] [] e f = refl
values-order [] (y ∷ ys) e f = refl
values-order (x ∷ xs) [] e f = refl
values-order (x ∷ xs) (y ∷ ys) e f =
    let t = every-cons is_letter_or_digit x xs e in
    let u = every-cons is_letter_or_digit y ys f in
    let o = value-order x y t.0 u.0 in
    rw (o.0, o.1, values-order xs ys t.1 u.1)

-- Reading on from place i: the character there counts v.
pub read_on-at : (b n v : ℕ) (xs : List ℕ) (i : ℕ) → i < length xs → v ≡ value (get_or xs i 0)
    → read_on b n (map value (drop i xs)) ≡ read_on b (n * b + v) (map value (drop (i + 1) xs))
unfolding read_on
read_on-at b n v xs i h e = rw (drop-cons xs i 0 h, add-one i, e)
