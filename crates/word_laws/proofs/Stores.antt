-- Stores applied to a table one after another.
use Rattle.std.proofs.Common.{◌≡◌, ℕ, ◌<◌, List, [], ◌∷◌, length, take, set, refl}
use Rattle.model.specs.Table.{Words}
use Rattle.model.specs.Orders.{Store, apply}
use Rattle.list_laws.proofs.Steps.{do_all, Until, AtFirst, first-between, first-end, until-before, until-end}

-- a store, as a step from table to table
abbrev pub do_store : Store → Words → Words
do_store s t = set t s.word s.value

pub apply-all : (qs : List Store) (t : Words) → apply qs t ≡ do_all do_store qs t
unfolding apply do_all
apply-all [] t = refl
apply-all (q ∷ qs) t = apply-all qs (do_store q t)

-- P after each first part of the stores but the whole, Q after the whole
module _ (P Q : Words → Type 0) (qs : List Store) (t : Words) (a : Until do_store P Q qs t) where
  -- after each first part of the stores but the whole, P holds of the table
  pub before-whole : (j : ℕ) → j < length qs → P (apply (take j qs) t)
  before-whole j h = rw (apply-all (take j qs) t) (until-before do_store P Q qs t a j h)

  -- after all stores Q holds of the table
  pub after-whole : Q (apply qs t)
  after-whole = rw (apply-all qs t) (until-end do_store P Q qs t a)

-- Q after each first part but nothing and the whole, R after the whole, where the first store makes the change
module _ (P Q R : Words → Type 0) (qs : List Store) (t : Words) (a : AtFirst do_store P Q R qs t) where
  -- after the first store and before the last, Q holds of the table
  pub between-first : (j : ℕ) → 0 < j → j < length qs → Q (apply (take j qs) t)
  between-first j g h = rw (apply-all (take j qs) t) (first-between do_store P Q R qs t a j g h)

  -- after all stores, if there is one, R holds of the table
  pub after-first : 0 < length qs → R (apply qs t)
  after-first g = rw (apply-all qs t) (first-end do_store P Q R qs t a g)
