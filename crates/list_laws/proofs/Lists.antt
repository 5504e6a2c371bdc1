-- Lists cut, taken apart and mapped.
use Rattle.std.proofs.Common.{◌≡◌, ℕ, zero, suc, ◌-◌, ◌↔◌, List, [], ◌∷◌, ◌++◌, map, length, take, replicate, refl, ap, arith}
use native.Mathlib.Numerals.{unary_clauses}
use lib.Seq.{take-nil}
use Rattle.model.specs.Lists.{sum}
use Rattle.model.specs.Table.{at}
use Rattle.list_laws.proofs.Tools.{Each}

-- a first part of two lists in a row
pub take-append {ℓ} : {A : Type ℓ} (n : ℕ) (a b : List A) → take n (a ++ b) ≡ take n a ++ take (n - length a) b
take-append n [] b = simp (take-nil, unary_clauses)
take-append zero (x ∷ a) b = let e : 0 - length (x ∷ a) ≡ 0 = omega arith in rw e
take-append (suc n) (x ∷ a) b = simp unary_clauses (ap (λ l. x ∷ l) (take-append n a b))

-- equal lists have equal first items and equal rests
pub cons-same {ℓ} : {A : Type ℓ} (x y : A) (xs ys : List A) → x ∷ xs ≡ y ∷ ys → (x ≡ y) × (xs ≡ ys)
cons-same x y xs ys e = (cc, cc)

-- P holds of each item of a mapped list exactly if it holds of the image of each item
pub each-map {ℓ} : {A B : Type ℓ} (P : B → Type 0) (g : A → B) (xs : List A) → Each P (map g xs) ↔ Each (λ (x : A). P (g x)) xs
each-map P g [] = (λ h. h, λ h. h)
each-map P g (x ∷ xs) = let u = each-map P g xs in (λ h. (h.0, u.0 h.1), λ h. (h.0, u.1 h.1))

-- a word of zeros, or past them
pub at-replicate : (n i : ℕ) → at (replicate n 0) i ≡ 0
at-replicate zero i = refl
at-replicate (suc n) zero = refl
at-replicate (suc n) (suc i) = at-replicate n i

-- the sum of zeros is 0
pub sum-none : (f : ℕ → ℕ) (ns : List ℕ) → ((n : ℕ) → f n ≡ 0) → sum (map f ns) ≡ 0
sum-none f [] e = refl
sum-none f (n ∷ ns) e = omega (arith, e n, sum-none f ns e)
