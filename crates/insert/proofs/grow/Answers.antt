-- `insert::grow` meets its contract.
use Rattle.std.proofs.Common.{arith}
use Rattle.orders.proofs.Rest.{room-as, stored-as, stored-none}
use Rattle.insert.proofs.Growing.{number-low, word-low, table-header, table-sound, root-low, no-root, root-in, root-stores, root-there}
use Rattle.insert.proofs.grow.Goals as goal

pub returns-else-run-clause-stores : goal.returns-else-run-clause-stores
returns-else-run-clause-stores c = let q = c.requires in
    stored-as (no-root q.growable c.if-run.false) stored-none

pub root_of-root-requires-clause-table_value : goal.root_of-root-requires-clause-table_value
root_of-root-requires-clause-table_value c = let q = c.requires in rw c.table-table.ensures (table-header q.growable)

pub fresh-fresh-requires-clause-table_value : goal.fresh-fresh-requires-clause-table_value
fresh-fresh-requires-clause-table_value c = let q = c.requires in rw c.table-table.ensures (table-sound q.growable)

pub fresh-fresh-requires-clause-a_bound : goal.fresh-fresh-requires-clause-a_bound
fresh-fresh-requires-clause-a_bound c =
    let q = c.requires in
    rw c.table-table.ensures (root-in q.growable (rw c.table-table.ensures at c.root_of-root.ensures)).1

pub overflow_mul-x : goal.overflow_mul-x
overflow_mul-x c = let q = c.requires in omega (arith, (number-low q.growable).1)

pub overflow_sub-x : goal.overflow_sub-x
overflow_sub-x c = let q = c.requires in omega (arith, (number-low q.growable).0)

pub new_root-requires : goal.new_root-requires
new_root-requires c =
    let q = c.requires in
    let h = q.growable in
    let e = rw c.table-table.ensures at c.root_of-root.ensures in
    let w = c.if-run.true in
    let n = rw c.table-table.ensures at c.fresh-fresh.ensures.value in
    record {
      word_bound = word-low h;
      r_value = root-there h e w n;
      word_bound_2 = root-low h;
      room = room-as _ _ _ (root-stores h e w n) q.room;
    }

pub returns-then-run : goal.returns-then-run
returns-then-run c =
    let q = c.requires in
    let h = q.growable in
    record {
      stores = stored-as (root-stores h (rw c.table-table.ensures at c.root_of-root.ensures) c.if-run.true
          (rw c.table-table.ensures at c.fresh-fresh.ensures.value)) c.new_root.ensures;
      marked_2 = rw c.table-table.ensures at c.fresh-fresh.ensures.marked_2;
    }
