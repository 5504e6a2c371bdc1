-- `insert_many::take_next` meets its contract.
use native.Mathlib.Omega.{arith}
use Rattle.list_laws.proofs.Tools.{handed-on}
use Rattle.insert_many.proofs.Going.{known-as, next-refused, next-done, orders-fit}
use Rattle.insert_many.proofs.take_next.Goals as goal

pub take_one-requires : goal.take_one-requires
take_one-requires c = let a = c.args in let q = c.requires in record {
  found = q.fit.found;
  table_value = q.fit.collection;
  dock_bound = q.fit.dock-ok;
  known_value = known-as a.collection _ a.table.now _ c.recording.ensures _ q.known_value;
  marked = q.marked;
}

pub returns-in_err-entered-clause-table_after : goal.returns-in_err-entered-clause-table_after
returns-in_err-entered-clause-table_after c = let a = c.args in let q = c.requires in let e = c.take_one.ensures in
    let n = next-refused a.collection a.dock a.pairs.now a.p a.list.now a.table.now q.fit q.taken_in_bounds c.take_one.result _ _
    c.recording.ensures c.class.ensures (e.result_value, (e.table_after, (e.list_after, e.counts))) _ c.in_err-entered.was in
    rw (handed-on c.from_residual.ensures.1) n.same

-- the words that the pair's orders fill are in the list, and so are those before them: each sum is low
pub add-requires : goal.add-requires
add-requires c = let a = c.args in let q = c.requires in let e = c.take_one.ensures in
    let fit = orders-fit a.collection a.dock a.pairs.now a.p a.list.now a.table.now q.fit q.taken_in_bounds c.take_one.result _ _
    c.recording.ensures c.class.ensures (e.result_value, (e.table_after, (e.list_after, e.counts))) _ c.in_ok-entered.was in
    record { stores = omega (arith, fit); flushes = omega (arith, fit); barriers = omega (arith, fit) }

pub returns : goal.returns
returns c = let a = c.args in let q = c.requires in let e = c.take_one.ensures in
    let n = next-done a.collection a.dock a.pairs.now a.p a.list.now a.table.now q.fit q.taken_in_bounds c.take_one.result _ _
    c.recording.ensures c.class.ensures (e.result_value, (e.table_after, (e.list_after, e.counts))) _ c.in_ok-entered.was in
    record { table_after = rw c.add.ensures n.same; gains = rw c.add.ensures n.gains; marked_2 = e.marked_2 }
