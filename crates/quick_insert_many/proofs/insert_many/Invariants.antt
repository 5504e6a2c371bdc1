-- `quick_insert_many::insert_many` meets its contract. The loop keeps that from here the batch comes to what it comes to from the start.
use Rattle.std.proofs.Common.{◌≡◌, ◌/◌, ◌≤◌, length}
use Rattle.model.specs.Slots.{slots_of}
use Rattle.model.specs.QuickBatch.{quick_batch}
use Rattle.quick_insert_many.specs.Going.{filled, ahead}
use Rattle.quick_insert_many.proofs.insert_many.Given as goal

abbrev pub invariant-loop : goal.invariant-loop
invariant-loop l = record {
  counted : l.count ≡ length l.pairs / 2;
  taken-are : l.p.taken ≡ l.counter;
  inside : filled l.p ≤ length l.list;
  same : ahead l.collection l.dock (slots_of l.pairs) l.p l.list l.summary l.table
      ≡ quick_batch l.collection l.dock (slots_of l.pairs) l.initial.list l.initial.summary l.initial.table;
}
