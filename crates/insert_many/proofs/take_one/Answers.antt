-- `insert_many::take_one` meets its contract.
use native.Mathlib.Omega.{arith}
use Rattle.insert_many.proofs.Going.{short}
use Rattle.insert_many.proofs.take_one.Goals as goal

pub returns-then-list-words_for : goal.returns-then-list-words_for
returns-then-list-words_for c = let x = c.args.x in let q = c.requires in
    let p = short x.collection x.key x.recording x.access c.args.dock c.args.table.now c.args.list.now q.found.is-sound q.table_value
    q.dock_bound _ c.words_for.ensures c.if-list-words_for.true in
    record { result_value = p.0; table_after = p.1.0; list_after = p.1.1.0; counts = tt; marked_2 = q.marked }

pub insert_known-requires : goal.insert_known-requires
insert_known-requires c = let q = c.requires in record {
  found = q.found;
  table_value = q.table_value;
  dock_bound = q.dock_bound;
  dock_in_bounds = omega (arith, c.words_for.ensures);
  known_value = q.known_value;
  marked = q.marked;
}
