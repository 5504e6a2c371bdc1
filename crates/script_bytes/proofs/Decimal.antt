-- Numbers in decimal: their digits, how many, and that they read back.
use Rattle.std.proofs.Common.{◌≡◌, ℕ, zero, suc, ◌+◌, ◌*◌, ◌/◌, ◌%◌, ◌^◌, ◌<◌, ◌≤◌, max, true, [], ◌∷◌, ◌++◌, map, length, sym, refl, ap}
use Rattle.std.proofs.Common.{◌∙◌, mod-lt, mod-eq_of_lt, div-lt_iff_lt-mul, pow-suc, div-add-mod', add-one, arith, lit<, length-append}
use Rattle.std.proofs.Common.{le-ltb, lt-ltb, le-leb}
use mathlib.Core.List.{map-append}
use native.Mathlib.Nat.{one-le-pow}
use native.Mathlib.Decide.{dec_lt}
use Rattle.list_laws.proofs.Tools.{all-append}
use Rattle.isrc.proofs.Characters.{character-small, value-digit}
use Rattle.isrc.proofs.Digits.{number-nil, number-snoc}
use Rattle.model.specs.Table.{MARK}
use Rattle.model.specs.Text.{ascii}
use Rattle.model.specs.Orders.{Order, store, flush, barrier, BAR}
use Rattle.model.specs.Codes.{is_digit, value, character, digits}
use Rattle.model.specs.Lists.{all}
use Rattle.model.specs.Printer.{Bytes, non_empty, decimal_value, is_recording, decimal_from, decimal, numbers_text, printed, order_text}

-- ---- digit by digit

decimal-small : (f n : ℕ) → n < 10 → decimal_from (suc f) n ≡ (48 + n) ∷ []
unfolding decimal_from
decimal-small f n h = rw (lt-ltb n 10 h, decimal_from)

decimal-large : (f n : ℕ) → 10 ≤ n → decimal_from (suc f) n ≡ decimal_from f (n / 10) ++ ((48 + n % 10) ∷ [])
unfolding decimal_from
decimal-large f n h = rw (le-ltb n 10 h, decimal_from)

-- ---- how many digits

pub one-digit : (f n : ℕ) → 0 < f → n < 10 → length (decimal_from f n) ≡ 1
one-digit zero n p h = absurd (omega arith)
one-digit (suc f) n p h = rw (decimal-small f n h)

tenth : (f n : ℕ) → n < 10 ^ suc f → n / 10 < 10 ^ f
tenth f n h = (div-lt_iff_lt-mul {k = 10} {x = n} {y = 10 ^ f} (lit< tt)).1 (rw (pow-suc 10 f) at h)

digit-less : (f n : ℕ) → 10 ≤ n → length (decimal_from (suc f) n) ≡ length (decimal_from f (n / 10)) + 1
digit-less f n l = rw (decimal-large f n l, length-append)

digits-many : (k f n : ℕ) → k < f → 10 ^ k ≤ n → n < 10 * 10 ^ k → length (decimal_from f n) ≡ k + 1
digits-many k zero n p l h = absurd (omega arith)
digits-many zero (suc f) n p l h = one-digit (suc f) n (omega arith) (omega (arith, h))
digits-many (suc k) (suc f) n p l h =
    let a : 10 ^ suc k ≡ 10 ^ k * 10 = pow-suc 10 k in
    let ih = digits-many k f (n / 10) (omega arith) (omega (arith, a, l)) (omega (arith, a, h)) in
    omega (arith, digit-less f n (omega (arith, a, one-le-pow k 10 (lit< tt), l)), ih)

-- a number has a digit more than the logarithm says; 0 has as many as 1
pub digits-of : (n m k : ℕ) → m ≡ max n 1 → k < 20 → 10 ^ k ≤ m → m < 10 * 10 ^ k → length (decimal n) ≡ k + 1
unfolding decimal
digits-of n m k e p l h = go (dec_lt n 1)
  where
    go : Dec (n < 1) → length (decimal_from 20 n) ≡ k + 1
    go (yes z) = one-digit 20 n (omega arith) (omega arith) ∙ sym (one-digit 20 1 (omega arith) (omega arith))
        ∙ digits-many k 20 1 p (omega (arith, e, z, l)) (omega (arith, e, z, h))
    go (no z) = digits-many k 20 n p (omega (arith, e, z, l)) (omega (arith, e, z, h))

pub width-most : (f n : ℕ) → length (decimal_from f n) ≤ f
unfolding decimal_from
width-most zero n = omega arith
width-most (suc f) n = go (dec_lt n 10) (width-most f (n / 10))
  where
    go : Dec (n < 10) → length (decimal_from f (n / 10)) ≤ f → length (decimal_from (suc f) n) ≤ suc f
    go (yes h) ih = rw (decimal-small f n h) (omega arith)
    go (no h) ih = rw (decimal-large f n (omega arith), length-append) (omega arith)

-- ---- they are the digits of the number

digits-snoc : (xs : Bytes) (n : ℕ) → xs ≡ map character (digits 10 (length xs) (n / 10))
    → xs ++ ((48 + n % 10) ∷ []) ≡ map character (digits 10 (length (xs ++ ((48 + n % 10) ∷ []))) n)
unfolding digits
digits-snoc xs n h =
    let l : length (xs ++ ((48 + n % 10) ∷ [])) ≡ suc (length xs) = length-append xs ((48 + n % 10) ∷ []) ∙ add-one (length xs) in
    rw (l, digits, map-append, ← h, character-small (n % 10) (mod-lt n (lit< tt)))

digits-next : (f n : ℕ) → decimal_from f (n / 10) ≡ map character (digits 10 (length (decimal_from f (n / 10))) (n / 10))
    → decimal_from (suc f) n ≡ map character (digits 10 (length (decimal_from (suc f) n)) n)
unfolding digits
digits-next f n ih = go (dec_lt n 10)
  where
    go : Dec (n < 10) → decimal_from (suc f) n ≡ map character (digits 10 (length (decimal_from (suc f) n)) n)
    go (yes h) = rw (decimal-small f n h, mod-eq_of_lt h, character-small n h)
    go (no h) = rw (decimal-large f n (omega arith)) (digits-snoc (decimal_from f (n / 10)) n ih)

pub decimal-digits : (f n : ℕ) → decimal_from f n ≡ map character (digits 10 (length (decimal_from f n)) n)
unfolding decimal_from digits
decimal-digits zero n = refl
decimal-digits (suc f) n = digits-next f n (decimal-digits f (n / 10))

-- a number is written with at most 20 digits
pub decimal-most : (n : ℕ) → length (decimal n) ≤ 20
unfolding decimal
decimal-most n = width-most 20 n

-- ---- it is the usual decimal: digits that read back as the number, with no 0 in front

digit-counts : (d : ℕ) → d < 10 → (is_digit (48 + d) ≡ true) × (value (48 + d) ≡ d)
unfolding is_digit
digit-counts d h =
    let e : is_digit (48 + d) ≡ true = rw (le-leb 48 (48 + d) (omega arith), le-leb (48 + d) 57 (omega arith)) in
    (e, value-digit (48 + d) e ∙ omega arith)

reads-next : (f n : ℕ) → (all is_digit (decimal_from f (n / 10)) ≡ true) × (decimal_value (decimal_from f (n / 10)) ≡ n / 10)
    → (all is_digit (decimal_from (suc f) n) ≡ true) × (decimal_value (decimal_from (suc f) n) ≡ n)
unfolding all
reads-next f n ih = go (dec_lt n 10)
  where
    go : Dec (n < 10) → (all is_digit (decimal_from (suc f) n) ≡ true) × (decimal_value (decimal_from (suc f) n) ≡ n)
    go (yes h) = rw (decimal-small f n h)
        (rw (digit-counts n h).0, number-snoc 10 [] (value (48 + n)) ∙ rw (number-nil, (digit-counts n h).1) (omega arith))
    go (no h) =
        let d = digit-counts (n % 10) (mod-lt n (lit< tt)) in
        rw (decimal-large f n (omega arith)) (
          (all-append is_digit (decimal_from f (n / 10)) ((48 + n % 10) ∷ [])).1 (ih.0, rw d.0),
          rw (map-append, number-snoc, d.1, ih.1) (div-add-mod' n 10),
        )

pub decimal-reads : (f n : ℕ) → n < 10 ^ f → (all is_digit (decimal_from f n) ≡ true) × (decimal_value (decimal_from f n) ≡ n)
unfolding decimal_from all
decimal-reads zero n h = (refl, number-nil 10 ∙ omega arith)
decimal-reads (suc f) n h = reads-next f n (decimal-reads f (n / 10) (tenth f n h))

pub no-leading-zero : (f n : ℕ) → 0 < n → n < 10 ^ f → (c : ℕ) × (cs : Bytes) × (decimal_from f n ≡ c ∷ cs) × (48 < c)
no-leading-zero zero n p h = absurd (omega arith)
no-leading-zero (suc f) n p h = go (dec_lt n 10) (λ q. no-leading-zero f (n / 10) q (tenth f n h))
  where
    go : Dec (n < 10) → (0 < n / 10 → (c : ℕ) × (cs : Bytes) × (decimal_from f (n / 10) ≡ c ∷ cs) × (48 < c))
        → (c : ℕ) × (cs : Bytes) × (decimal_from (suc f) n ≡ c ∷ cs) × (48 < c)
    go (yes l) ih = (48 + n, [], decimal-small f n l, omega arith)
    go (no l) ih =
        let r = ih (omega arith) in
        (r.0, r.1 ++ ((48 + n % 10) ∷ []), decimal-large f n (omega arith) ∙ ap (λ (xs : Bytes). xs ++ ((48 + n % 10) ∷ [])) r.2, r.3)

snoc-some : (xs : Bytes) (b : ℕ) → non_empty (xs ++ (b ∷ [])) ≡ true
snoc-some [] b = refl
snoc-some (x ∷ xs) b = refl

some-digit : (f n : ℕ) → non_empty (decimal_from (suc f) n) ≡ true
some-digit f n = go (dec_lt n 10)
  where
    go : Dec (n < 10) → non_empty (decimal_from (suc f) n) ≡ true
    go (yes h) = rw (decimal-small f n h)
    go (no h) = rw (decimal-large f n (omega arith)) (snoc-some (decimal_from f (n / 10)) (48 + n % 10))

-- A number that fits a word is printed as a recording that reads as the number.
pub decimal-recording : (n : ℕ) → n ≤ MARK → (is_recording (decimal n) ≡ true) × (decimal_value (decimal n) ≡ n)
unfolding is_recording decimal
decimal-recording n h =
    let r = decimal-reads 20 n (omega arith) in
    (rw (some-digit 19 n, r.0, r.1) (le-leb n MARK h), r.1)

-- ---- how long a printed line is

one-most : (text : Bytes) (n : ℕ) → length (printed text (n ∷ [])) ≤ length text + 22
unfolding numbers_text
one-most text n = simp length-append (omega (arith, decimal-most n))

two-most : (text : Bytes) (m n : ℕ) → length (printed text (m ∷ n ∷ [])) ≤ length text + 43
unfolding numbers_text
two-most text m n = simp length-append (omega (arith, decimal-most m, decimal-most n))

pub order-most : (o : Order) → length (order_text o) ≤ 48
unfolding order_text
order-most (store s) = two-most (ascii "store") s.word s.value
order-most (flush l) = omega (arith, one-most (ascii "flush") l)
order-most barrier = two-most (ascii "store") BAR 0
