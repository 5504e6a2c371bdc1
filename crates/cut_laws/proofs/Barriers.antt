-- Orders with barriers and without: the stores, counts and words that they share, and their first parts.
use Rattle.std.proofs.Common.{◌≡◌, ℕ, zero, suc, ◌+◌, ◌*◌, ◌≤◌, List, [], ◌∷◌, ◌++◌, length, take, sym, refl, ap, ◌∙◌, arith}
use Rattle.model.specs.Table.{Words}
use Rattle.model.specs.Orders.{Order, store, flush, barrier, carry, with_barriers, barred, without_barriers, store_count, flush_count}
use Rattle.model.specs.Orders.{barrier_count, all_inside}
use Rattle.cut_laws.specs.Unflushed.{stores_in}
use Rattle.cut_laws.proofs.Applying.{counts-length}

-- ---- a list without its barriers

pub without-stores : (os : List Order) → stores_in (without_barriers os) ≡ stores_in os
unfolding stores_in without_barriers
without-stores [] = refl
without-stores (store s ∷ os) = ap (λ q. s ∷ q) (without-stores os)
without-stores (flush l ∷ os) = without-stores os
without-stores (barrier ∷ os) = without-stores os

pub without-carry : (os : List Order) (t : Words) → carry (without_barriers os) t ≡ carry os t
unfolding carry without_barriers
without-carry [] t = refl
without-carry (store s ∷ os) t = without-carry os _
without-carry (flush l ∷ os) t = without-carry os t
without-carry (barrier ∷ os) t = without-carry os t

without-store_count : (os : List Order) → store_count (without_barriers os) ≡ store_count os
unfolding store_count without_barriers
without-store_count [] = refl
without-store_count (store s ∷ os) = ap suc (without-store_count os)
without-store_count (flush l ∷ os) = without-store_count os
without-store_count (barrier ∷ os) = without-store_count os

without-flush_count : (os : List Order) → flush_count (without_barriers os) ≡ flush_count os
unfolding flush_count without_barriers
without-flush_count [] = refl
without-flush_count (store s ∷ os) = without-flush_count os
without-flush_count (flush l ∷ os) = ap suc (without-flush_count os)
without-flush_count (barrier ∷ os) = without-flush_count os

pub without-barrier_count : (os : List Order) → barrier_count (without_barriers os) ≡ 0
unfolding barrier_count without_barriers
without-barrier_count [] = refl
without-barrier_count (store s ∷ os) = without-barrier_count os
without-barrier_count (flush l ∷ os) = without-barrier_count os
without-barrier_count (barrier ∷ os) = without-barrier_count os

pub without-append : (a b : List Order) → without_barriers (a ++ b) ≡ without_barriers a ++ without_barriers b
unfolding without_barriers
without-append [] b = refl
without-append (store s ∷ a) b = ap (λ q. store s ∷ q) (without-append a b)
without-append (flush l ∷ a) b = ap (λ q. flush l ∷ q) (without-append a b)
without-append (barrier ∷ a) b = without-append a b

-- of the first orders there remain the first of those that remain
pub without-take : (c : ℕ) (os : List Order) → without_barriers (take c os)
    ≡ take (length (without_barriers (take c os))) (without_barriers os)
unfolding without_barriers
without-take zero os = refl
without-take (suc c) [] = refl
without-take (suc c) (store s ∷ os) = ap (λ q. store s ∷ q) (without-take c os)
without-take (suc c) (flush l ∷ os) = ap (λ q. flush l ∷ q) (without-take c os)
without-take (suc c) (barrier ∷ os) = without-take c os

-- ---- a list as its dock needs it

with-append : (a b : List Order) → with_barriers (a ++ b) ≡ with_barriers a ++ with_barriers b
unfolding with_barriers
with-append [] b = refl
with-append (store s ∷ a) b = ap (λ q. store s ∷ barrier ∷ q) (with-append a b)
with-append (flush l ∷ a) b = ap (λ q. flush l ∷ q) (with-append a b)
with-append (barrier ∷ a) b = ap (λ q. barrier ∷ q) (with-append a b)

-- joined lists as their dock needs them are the one, then the other, as the dock needs them
pub barred-append : (dock : ℕ) (a b : List Order) → barred dock (a ++ b) ≡ barred dock a ++ barred dock b
barred-append zero a b = refl
barred-append (suc n) a b = with-append a b

without-with : (os : List Order) → without_barriers (with_barriers os) ≡ without_barriers os
unfolding with_barriers without_barriers
without-with [] = refl
without-with (store s ∷ os) = ap (λ q. store s ∷ q) (without-with os)
without-with (flush l ∷ os) = ap (λ q. flush l ∷ q) (without-with os)
without-with (barrier ∷ os) = without-with os

pub without-barred : (dock : ℕ) (os : List Order) → without_barriers (barred dock os) ≡ without_barriers os
without-barred zero os = refl
without-barred (suc n) os = without-with os

-- what barriers do not change is the same for every dock
module _ {A : Type 0} (f : List Order → A) (same : (os : List Order) → f (without_barriers os) ≡ f os) where
  barred-same : (dock : ℕ) (os : List Order) → f (barred dock os) ≡ f os
  barred-same dock os = sym (same (barred dock os)) ∙ ap f (without-barred dock os) ∙ same os

-- the barriers of a dock change none of the stores
pub barred-stores : (dock : ℕ) (os : List Order) → stores_in (barred dock os) ≡ stores_in os
barred-stores = barred-same stores_in without-stores

-- a list with its dock's barriers leaves the same table as without
pub barred-carry : (dock : ℕ) (os : List Order) (t : Words) → carry (barred dock os) t ≡ carry os t
barred-carry dock os t = barred-same (λ (os : List Order). carry os t) (λ os. without-carry os t) dock os

-- the barriers of a dock do not change the count of stores
pub barred-store_count : (dock : ℕ) (os : List Order) → store_count (barred dock os) ≡ store_count os
barred-store_count = barred-same store_count without-store_count

-- the barriers of a dock do not change the count of flushes
pub barred-flush_count : (dock : ℕ) (os : List Order) → flush_count (barred dock os) ≡ flush_count os
barred-flush_count = barred-same flush_count without-flush_count

-- a barrier lies in every table
without-inside : (n : ℕ) (os : List Order) → all_inside n (without_barriers os) ≡ all_inside n os
unfolding all_inside without_barriers
without-inside n [] = refl
without-inside n (store s ∷ os) = rw (without-inside n os)
without-inside n (flush l ∷ os) = rw (without-inside n os)
without-inside n (barrier ∷ os) = without-inside n os

-- a list with its dock's barriers lies inside a table exactly if it does without
pub barred-inside : (dock n : ℕ) (os : List Order) → all_inside n (barred dock os) ≡ all_inside n os
barred-inside dock n os = barred-same (all_inside n) (without-inside n) dock os

-- Dock 1 has a barrier for each store.
pub with-barrier_count : (os : List Order) → barrier_count (with_barriers os) ≡ store_count os + barrier_count os
unfolding barrier_count store_count with_barriers
with-barrier_count [] = refl
with-barrier_count (store s ∷ os) = omega (arith, with-barrier_count os)
with-barrier_count (flush l ∷ os) = with-barrier_count os
with-barrier_count (barrier ∷ os) = omega (arith, with-barrier_count os)

-- so that its list is at most twice as long, and no shorter
pub barred-length : (dock : ℕ) (os : List Order) → length (barred dock os) ≤ 2 * length os
barred-length zero os = omega arith
barred-length (suc n) os =
    omega (
      arith,
      counts-length (with_barriers os),
      counts-length os,
      barred-store_count 1 os,
      barred-flush_count 1 os,
      with-barrier_count os,
    )

-- the barriers of a dock make a list no shorter
pub barred-longer : (dock : ℕ) (os : List Order) → length os ≤ length (barred dock os)
barred-longer zero os = omega arith
barred-longer (suc n) os =
    omega (
      arith,
      counts-length (with_barriers os),
      counts-length os,
      barred-store_count 1 os,
      barred-flush_count 1 os,
      with-barrier_count os,
    )

-- no orders need no barriers
pub barred-nil : (dock : ℕ) → barred dock [] ≡ []
unfolding with_barriers
barred-nil zero = refl
barred-nil (suc n) = refl
