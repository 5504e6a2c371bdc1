-- Digits in any base: the number that they read as, the digits of a number, and their order.
use Rattle.std.proofs.Common.{◌≡◌, ℕ, zero, suc, ◌+◌, ◌*◌, ◌/◌, ◌%◌, ◌^◌, ◌<◌, ◌≤◌, ◌&&◌, ◌||◌, eqb, ltb, List, [], ◌∷◌, ◌++◌, length, sym}
use Rattle.std.proofs.Common.{refl, ap, ◌∙◌, ap₂, append-nil, add-zero, add_assoc, mod-lt, mul_assoc, add-mul, mul-le-mul_left, pow-suc}
use Rattle.std.proofs.Common.{zero-add, zero-mul, mul-one, add-one, arith, length-append, le-ltb, lt-ltb, eq-eqb, ne_eqb}
use native.Mathlib.Nat.{pow-zero, pow-succ', one-le-pow, mod-one}
use native.Mathlib.Decide.{dec_lt}
use lib.Arith.{digits_lt, digits_div, digits_mod, mod-mul}
use Rattle.model.specs.Codes.{read_on, number, digits, text_below}

-- all digits below the base
abbrev pub Below : ℕ → List ℕ → Type 0
Below b [] = Unit {0}
Below b (d ∷ ds) = (d < b) × Below b ds

pub below-append : (b : ℕ) (xs ys : List ℕ) → Below b xs → Below b ys → Below b (xs ++ ys)
below-append b [] ys hx hy = hy
below-append b (x ∷ xs) ys hx hy = (hx.0, below-append b xs ys hx.1 hy)

-- ---- reading

pub read_on-append : (b n : ℕ) (xs ys : List ℕ) → read_on b n (xs ++ ys) ≡ read_on b (read_on b n xs) ys
unfolding read_on
read_on-append b n [] ys = refl
read_on-append b n (x ∷ xs) ys = read_on-append b (n * b + x) xs ys

pub read_on-number : (b n : ℕ) (ds : List ℕ) → read_on b n ds ≡ n * b ^ length ds + number b ds
unfolding read_on number
read_on-number b n [] = sym (rw (pow-zero, mul-one, add-zero))
read_on-number b n (d ∷ ds) =
    simp (read_on-number b (n * b + d) ds, read_on-number b d ds, pow-succ', add-mul, mul_assoc, zero-mul, zero-add, add_assoc)

-- no digits are the number 0
pub number-nil : (b : ℕ) → number b [] ≡ 0
unfolding read_on number
number-nil b = refl

pub number-cons : (b d : ℕ) (ds : List ℕ) → number b (d ∷ ds) ≡ d * b ^ length ds + number b ds
unfolding read_on number
number-cons b d ds = ap (λ (n : ℕ). read_on b n ds) (rw (zero-mul, zero-add)) ∙ read_on-number b d ds

-- a digit d more at the end makes a number b times as large, plus d
pub number-snoc : (b : ℕ) (ds : List ℕ) (d : ℕ) → number b (ds ++ (d ∷ [])) ≡ number b ds * b + d
unfolding read_on number
number-snoc b ds d = read_on-append b 0 ds (d ∷ [])

pub number-bound : (b : ℕ) (ds : List ℕ) → Below b ds → number b ds < b ^ length ds
unfolding read_on number
number-bound b [] h = rw pow-zero (omega arith)
number-bound b (d ∷ ds) h = rw (number-cons, pow-succ') (digits_lt h.0 (number-bound b ds h.1))

-- One more digit, in a base up to m, brings a number below m ^ i below m ^ (i + 1).
pub step-bound : (m b n d i : ℕ) → b ≤ m → n < m ^ i → d < m → n * b + d < m ^ (i + 1)
step-bound m b n d i hb hn hd = rw (add-one, pow-suc) (omega (arith, digits_lt hn hd, mul-le-mul_left n hb))

-- Digits of one length that read as the same number are the same.
pub number-injective : (b : ℕ) (xs ys : List ℕ) → Below b xs → Below b ys → length xs ≡ length ys
    → number b xs ≡ number b ys → xs ≡ ys
number-injective b [] [] hx hy l e = refl
number-injective b [] (y ∷ ys) hx hy l e = absurd (omega arith)
number-injective b (x ∷ xs) [] hx hy l e = absurd (omega arith)
number-injective b (x ∷ xs) (y ∷ ys) hx hy l e =
    let n : length xs ≡ length ys = omega arith in
    let p : x * b ^ length ys + number b xs ≡ y * b ^ length ys + number b ys = rw (number-cons b x xs, number-cons b y ys, n) at e in
    let u : number b xs < b ^ length ys = rw n at (number-bound b xs hx.1) in
    let v : number b ys < b ^ length ys = number-bound b ys hy.1 in
    ap₂ ◌∷◌ (sym (digits_div x u) ∙ ap (λ (k : ℕ). k / b ^ length ys) p ∙ digits_div y v)
    (number-injective b xs ys hx.1 hy.1 n (sym (digits_mod x u) ∙ ap (λ (k : ℕ). k % b ^ length ys) p ∙ digits_mod y v))

-- ---- writing

pub length-digits : (b n x : ℕ) → length (digits b n x) ≡ n
unfolding digits
length-digits b zero x = refl
length-digits b (suc n) x = length-append (digits b n (x / b)) (x % b ∷ []) ∙ rw (length-digits b n (x / b), add-one)

pub digits-below : (b n x : ℕ) → 0 < b → Below b (digits b n x)
unfolding digits
digits-below b zero x h = tt
digits-below b (suc n) x h = below-append b (digits b n (x / b)) (x % b ∷ []) (digits-below b n (x / b) h) (mod-lt x h, tt)

pub number-digits : (b n x : ℕ) → 0 < b → number b (digits b n x) ≡ x % b ^ n
unfolding digits read_on number
number-digits b zero x h = sym (rw (pow-zero, mod-one))
number-digits b (suc n) x h =
    number-snoc b (digits b n (x / b)) (x % b)
    ∙ ap (λ (k : ℕ). k * b + x % b) (number-digits b n (x / b) h)
    ∙ sym (ap (λ (k : ℕ). x % k) (pow-suc b n) ∙ mod-mul x (one-le-pow n b h) h)

-- Digits read and written again come back, whatever stands above them.
pub digits-read_on : (b n : ℕ) (ds : List ℕ) → 0 < b → Below b ds → digits b (length ds) (read_on b n ds) ≡ ds
digits-read_on b n ds h s =
    number-injective b (digits b (length ds) (read_on b n ds)) ds (digits-below b (length ds) (read_on b n ds) h) s
    (length-digits b (length ds) (read_on b n ds))
    (number-digits b (length ds) (read_on b n ds) h ∙ ap (λ (k : ℕ). k % b ^ length ds) (read_on-number b n ds)
    ∙ digits_mod n (number-bound b ds s))

pub digits-number : (b n : ℕ) (ds : List ℕ) → 0 < b → Below b ds → length ds ≡ n → digits b n (number b ds) ≡ ds
unfolding number
digits-number b n ds h s l = rw (← l) (digits-read_on b 0 ds h s)

-- ---- the order

ltb-add : (a p q : ℕ) → ltb p q ≡ ltb (a + p) (a + q)
ltb-add a p q = go (dec_lt p q)
  where
    go : Dec (p < q) → ltb p q ≡ ltb (a + p) (a + q)
    go (yes h) = lt-ltb p q h ∙ sym (lt-ltb (a + p) (a + q) (omega arith))
    go (no g) = le-ltb p q (omega arith) ∙ sym (le-ltb (a + p) (a + q) (omega arith))

-- The high parts decide, and under equal ones the low parts.
pub pairs-below : (m p q r s : ℕ) → q < m → s < m → (ltb p r || eqb p r && ltb q s) ≡ ltb (p * m + q) (r * m + s)
pairs-below m p q r s hq hs = go (dec_lt p r) (dec_lt r p)
  where
    go : Dec (p < r) → Dec (r < p) → (ltb p r || eqb p r && ltb q s) ≡ ltb (p * m + q) (r * m + s)
    go (yes h) d =
        rw (lt-ltb p r h) (sym (lt-ltb (p * m + q) (r * m + s) (omega (arith, digits_lt h hq))))
    go (no g) (yes h) =
        rw (le-ltb p r (omega arith), ne_eqb p r (omega arith)) (sym (le-ltb (p * m + q) (r * m + s) (omega (arith, digits_lt h hs))))
    go (no g) (no h) =
        let e : p ≡ r = omega arith in
        rw (e, le-ltb r r (omega arith), eq-eqb r r refl) (ltb-add (r * m) q s)

-- Digits of one length, then others: those that read lower come first, and in equal ones what follows decides.
pub readings-below : (b m q s : ℕ) (xs ys us vs : List ℕ) → Below b xs → Below b ys → length xs ≡ length ys → q < m → s < m
    → text_below us vs ≡ ltb q s
    → text_below (xs ++ us) (ys ++ vs) ≡ ltb (number b xs * m + q) (number b ys * m + s)
unfolding text_below
readings-below b m q s [] [] us vs hx hy l hq hs e = simp (number-nil, zero-mul, zero-add) e
readings-below b m q s [] (y ∷ ys) us vs hx hy l hq hs e = absurd (omega arith)
readings-below b m q s (x ∷ xs) [] us vs hx hy l hq hs e = absurd (omega arith)
readings-below b m q s (x ∷ xs) (y ∷ ys) us vs hx hy l hq hs e =
    let n : length xs ≡ length ys = omega arith in
    let t : text_below (xs ++ us) (ys ++ vs) ≡ ltb (number b xs * m + q) (number b ys * m + s) =
    readings-below b m q s xs ys us vs hx.1 hy.1 n hq hs e in
    let p : number b xs * m + q < b ^ length ys * m = digits_lt (rw n at (number-bound b xs hx.1)) hq in
    let r : number b ys * m + s < b ^ length ys * m = digits_lt (number-bound b ys hy.1) hs in
    rw t (pairs-below (b ^ length ys * m) x (number b xs * m + q) y (number b ys * m + s) p r
    ∙ simp (number-cons, n, add-mul, mul_assoc, add_assoc))

-- Digits of one length: those that read lower come first.
pub number-below : (b : ℕ) (xs ys : List ℕ) → Below b xs → Below b ys → length xs ≡ length ys → text_below xs ys
    ≡ ltb (number b xs) (number b ys)
unfolding text_below
number-below b xs ys hx hy l =
    simp (append-nil, mul-one, add-zero) at (readings-below b 1 0 0 xs ys [] [] hx hy l (omega arith) (omega arith) refl)
