-- What the parts of an insertion into a settled table need.
use Rattle.std.specs.Prelude.{◌≡◌, Bool, true, false, ℕ}
use Rattle.model.specs.Table.{Words, no_collection}
use Rattle.model.specs.Slots.{pointer_of}
use Rattle.model.specs.SoundTest.{settled}
use Rattle.model.specs.Writes.{root_in_run, insert_settled}
use Rattle.model.specs.Refusals.{too_few}
use Rattle.two_laws.specs.Parts.{Enters}
use Rattle.reach.specs.declared.Run.{Run}
use Rattle.orders.specs.declared.Writer.{Writer}
use Rattle.orders.specs.Desk.{of, Room}
use Rattle.insert.specs.Tests.{run_of}

-- a new root: a settled table with collection n and enough nodes for the run, and whether the run includes the root
pub record Growable (n : ℕ) (t : Words) (k : ℕ) (whole : Bool) : Type 0 where
  pub collection : no_collection n t ≡ false
  pub is-settled : settled t ≡ true
  pub enough : too_few n t k ≡ false
  pub whole-is : whole ≡ root_in_run n t k

-- all of it: the pair goes into collection o, and the list has room for the orders
pub record Enterable (o : ℕ) (w : Writer) (k r c : ℕ) (run : Run) : Type 0 where
  pub collection : no_collection o w.table.now ≡ false
  pub is-settled : settled w.table.now ≡ true
  pub enters : Enters o k r c w.table.now
  pub run-is : run ≡ run_of o w.table.now k
  pub room : Room (insert_settled o w.table.now k (pointer_of r c)) (of w)
