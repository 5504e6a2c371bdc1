-- `insert_many::take_all` meets its contract. The loop's invariant: from here the batch comes to what it comes to from the start, and the
-- recordings of the pairs before the end are new; what is marked is reached.
use Rattle.std.proofs.Common.{◌≡◌, ◌/◌, length}
use Rattle.model.specs.Slots.{slots_of}
use Rattle.model.specs.Reached.{map_of}
use Rattle.model.specs.Batch.{batch}
use Rattle.reach.specs.Marks.{Marked}
use Rattle.clear.specs.New.{recordings_of, New}
use Rattle.insert_many.specs.Going.{ahead, Fit}
use Rattle.insert_many.proofs.take_all.Given as goal

abbrev pub invariant-loop-i : goal.invariant-loop-i
invariant-loop-i l = record {
  counted : l.count ≡ length l.pairs / 2;
  taken-are : l.p.taken ≡ l.i;
  fit : Fit l.collection l.dock l.p l.list l.table;
  same : ahead l.collection l.dock (slots_of l.pairs) l.p l.list l.table
      ≡ batch l.collection l.dock (slots_of l.pairs) l.initial.list l.initial.table;
  new : New (map_of l.collection l.table) (recordings_of l.pairs l.i l.end);
  marked : Marked l.table l.marks;
}
