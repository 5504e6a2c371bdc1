-- How many elements of a list pass a test; rows of numbers.
use Rattle.std.proofs.Common.{◌≡◌, ℕ, zero, suc, ◌+◌, ◌<◌, ◌≤◌, Bool, true, false, not, ◌||◌, eqb, List, [], ◌∷◌, ◌++◌, length, sym, refl}
use Rattle.std.proofs.Common.{ap, ◌∙◌, arith, ne_eqb, eqb-true}
use mathlib.Core.Bool.{false≢true}
use borrow.Author.Tests.{eqb-false}
use Rattle.model.specs.Reached.{filter}
use Rattle.model.specs.SoundTest.{elem, distinct}
use Rattle.model.specs.Writes.{numbers}
use Rattle.list_laws.proofs.Tools.{Each, Each-map}
use Rattle.list_laws.proofs.Members.{mem-each}
use Rattle.list_laws.proofs.Filters.{filter-yes, filter-no, filter-none}
use Rattle.list_laws.proofs.Distinct.{distinct-cons, UpTo}

-- ---- how many elements pass a test

abbrev pub count_of : (ℕ → Bool) → List ℕ → ℕ
count_of p xs = length (filter p xs)

count-cons : (p : ℕ → Bool) (x : ℕ) (xs : List ℕ) (b : Bool) → p x ≡ b → count_of p (x ∷ xs)
    ≡ elim b [ true ↦ suc (count_of p xs) | false ↦ count_of p xs ]
count-cons p x xs true c = ap length (filter-yes p x xs c)
count-cons p x xs false c = ap length (filter-no p x xs c)

-- those that pass and those that do not
pub count-not : (p : ℕ → Bool) (xs : List ℕ) → count_of (λ (x : ℕ). not (p x)) xs + count_of p xs ≡ length xs
unfolding filter
count-not p [] = refl
count-not p (x ∷ xs) = go (p x) refl (count-not p xs)
  where
    go : (b : Bool) → p x ≡ b → count_of (λ (x : ℕ). not (p x)) xs + count_of p xs ≡ length xs
        → count_of (λ (x : ℕ). not (p x)) (x ∷ xs) + count_of p (x ∷ xs) ≡ suc (length xs)
    go true c ih = omega (arith, count-cons p x xs true c, count-cons (λ (x : ℕ). not (p x)) x xs false (ap not c))
    go false c ih = omega (arith, count-cons p x xs false c, count-cons (λ (x : ℕ). not (p x)) x xs true (ap not c))

-- those that pass one of two tests that exclude each other
pub count-or : (p q : ℕ → Bool) (xs : List ℕ) → ((x : ℕ) → p x ≡ true → q x ≡ false) → count_of (λ (x : ℕ). p x || q x) xs
    ≡ count_of p xs + count_of q xs
unfolding filter
count-or p q [] e = refl
count-or p q (x ∷ xs) e = go (p x) (q x) refl refl (count-or p q xs e)
  where
    go : (a b : Bool) → p x ≡ a → q x ≡ b → count_of (λ (x : ℕ). p x || q x) xs ≡ count_of p xs + count_of q xs
        → count_of (λ (x : ℕ). p x || q x) (x ∷ xs) ≡ count_of p (x ∷ xs) + count_of q (x ∷ xs)
    go true true c d ih = absurd (false≢true (sym (e x c) ∙ d))
    go true false c d ih =
        omega (arith, count-cons p x xs true c, count-cons q x xs false d, count-cons (λ (x : ℕ). p x || q x) x xs true (rw c))
    go false true c d ih =
        omega (arith, count-cons p x xs false c, count-cons q x xs true d, count-cons (λ (x : ℕ). p x || q x) x xs true (rw (c, d)))
    go false false c d ih =
        omega (arith, count-cons p x xs false c, count-cons q x xs false d, count-cons (λ (x : ℕ). p x || q x) x xs false (rw (c, d)))

-- ---- rows of numbers

-- numbers a n has n items
pub numbers-length : (a n : ℕ) → length (numbers a n) ≡ n
unfolding numbers
numbers-length a zero = refl
numbers-length a (suc n) = ap suc (numbers-length (suc a) n)

-- each of count numbers from a start is at least the start and below start plus count
pub numbers-each : (from count : ℕ) → Each (λ (n : ℕ). (from ≤ n) × (n < from + count)) (numbers from count)
unfolding numbers
numbers-each from zero = tt
numbers-each from (suc c) = (
  (omega arith, omega arith),
  Each-map (λ (n : ℕ). (suc from ≤ n) × (n < suc from + c)) (λ (n : ℕ). (from ≤ n) × (n < from + suc c))
      (numbers (suc from) c) (λ n h. let a = h.0 in let b = h.1 in (omega arith, omega arith)) (numbers-each (suc from) c),
)

-- a + b numbers in a row are the first a of them, then the b that follow
pub numbers-append : (from a b : ℕ) → numbers from (a + b) ≡ numbers from a ++ numbers (from + a) b
unfolding numbers
numbers-append from zero b = let p : 0 + b ≡ b = omega arith in let q : from + 0 ≡ from = omega arith in rw (p, q)
numbers-append from (suc a) b = let p : suc a + b ≡ suc (a + b) = omega arith in let q : from + suc a ≡ suc from + a =
    omega arith in rw (p, q) (ap (λ (l : List ℕ). from ∷ l) (numbers-append (suc from) a b))

-- a number stands once in a row of numbers that reaches it, and not in one that begins above it
count-below : (r a n : ℕ) → r < a → count_of (λ (x : ℕ). eqb x r) (numbers a n) ≡ 0
unfolding numbers filter
count-below r a zero h = refl
count-below r a (suc n) h =
    count-cons (λ (x : ℕ). eqb x r) a (numbers (suc a) n) false (ne_eqb a r (λ e. omega arith)) ∙ count-below r (suc a) n (omega arith)

count-one : (r a n : ℕ) → a ≤ r → r < a + n → count_of (λ (x : ℕ). eqb x r) (numbers a n) ≡ 1
unfolding numbers
count-one r a zero l h = absurd (omega arith)
count-one r a (suc n) l h = go (eqb a r) refl (count-one r (suc a) n)
  where
    go : (b : Bool) → eqb a r ≡ b → (suc a ≤ r → r < suc a + n → count_of (λ (x : ℕ). eqb x r) (numbers (suc a) n) ≡ 1)
        → count_of (λ (x : ℕ). eqb x r) (a ∷ numbers (suc a) n) ≡ 1
    go true c ih = count-cons (λ (x : ℕ). eqb x r) a (numbers (suc a) n) true c
        ∙ ap suc (count-below r (suc a) n (omega (arith, eqb-true a r c)))
    go false c ih = count-cons (λ (x : ℕ). eqb x r) a (numbers (suc a) n) false c ∙ ih (omega (arith, eqb-false a r c)) (omega arith)

-- a list without repetition of numbers from 1 to n: as many of those numbers are in it as it is long
pub count-elem : (n : ℕ) (rs : List ℕ) → distinct rs ≡ true → Each (UpTo n) rs → count_of (λ (x : ℕ). elem x rs) (numbers 1 n) ≡ length rs
unfolding elem
count-elem n [] d h =
    ap length (filter-none (λ (x : ℕ). elem x []) (numbers 1 n)
    (mem-each (λ (x : ℕ). elem x [] ≡ false) (numbers 1 n) (λ x m. unfold elem in refl)))
count-elem n (r ∷ rs) d h =
    let u = (distinct-cons r rs).0 d in
    count-or (λ (x : ℕ). eqb x r) (λ (x : ℕ). elem x rs) (numbers 1 n) (λ x e. rw (eqb-true x r e) u.0)
    ∙ omega (arith, count-one r 1 n h.0.0 (omega (arith, h.0.1)), count-elem n rs u.1 h.1)

-- and as many are not as are left of n
pub count-without : (n : ℕ) (rs : List ℕ) → distinct rs ≡ true → Each (UpTo n) rs
    → count_of (λ (x : ℕ). not (elem x rs)) (numbers 1 n) + length rs ≡ n
count-without n rs d h = omega (arith, count-not (λ (x : ℕ). elem x rs) (numbers 1 n), numbers-length 1 n, count-elem n rs d h)
