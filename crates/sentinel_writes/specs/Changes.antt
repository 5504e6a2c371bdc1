-- A change of a table and an order list, handed over as a function, that does what a plain call does.
use Rattle.std.specs.Prelude.{◌≡◌, ℕ, length}
use Rattle.std.specs.Fn.{Once}
use denote.Ref.{MutBor}
use Rattle.model.specs.Results.{Outcome, Written, passed}
use Rattle.model.specs.Table.{Words}
use Rattle.model.specs.Writes.{Call}
use Rattle.model.specs.Refusals.{seventeen_in, written, table_after, list_after}
use Rattle.model.specs.Sentinels.{slice_number}

-- the answer of call x, and what it leaves of the table and of the list
pub record Does (x : Call) (dock : ℕ) (t lent : Words) (answer : Written) (t' lent' : Words) : Type 0 where
  pub answered : answer ≡ written x (length lent) dock t
  pub table : t' ≡ table_after x (length lent) dock t
  pub listed : lent' ≡ list_after x lent dock t

-- f does what call x does, and the test before it is that of call x on table t, with a slice of m words
pub record Makes {F : Type 0} (g : Once F (MutBor Words × (MutBor Words × Unit {0})) (Written × (MutBor Words × (MutBor Words × Unit {0}))))
    (f : F) (tested : Outcome) (x : Call) (dock : ℕ) (t : Words) (m : ℕ) : Type 0 where
  pub test : tested ≡ passed (slice_number (seventeen_in x t) m t)
  pub does : (p q p' q' : MutBor Words) (answer : Written) → g.post f (p, (q, tt)) (answer, (p', (q', tt))) → Does x dock p.now q.now answer p'.now q'.now
