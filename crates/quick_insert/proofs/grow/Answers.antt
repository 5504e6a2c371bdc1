-- `quick_insert::grow` meets its contract.
use Rattle.std.proofs.Common.{◌≡◌, Bool, sym, ◌∙◌, arith}
use Rattle.model.specs.Table.{in_range, nodes}
use Rattle.tree_laws.proofs.Rows.{range-iff}
use Rattle.way.proofs.Walking.{along-low}
use Rattle.quick_insert.proofs.Testing.{along-size, number-few}
use Rattle.quick_insert.proofs.Entering.{root-in, in-table, root-low, start-none, start-lost, root-room, start-grown}
use Rattle.quick_insert.proofs.grow.Goals.{After-in_range}
use Rattle.quick_insert.proofs.grow.Goals as goal

-- whether the node that was found is one of the table's
ranged : (c : After-in_range) {b : Bool} → c.in_range.result ≡ b
    → in_range (nodes c.args.writer.now.table.now) c.free_after-fresh.result ≡ b
ranged c e = rw c.table-table.ensures at (sym c.in_range.ensures ∙ e)

pub on_level-above-requires : goal.on_level-above-requires
on_level-above-requires c = along-low c.requires.along

pub takes_root-requires : goal.takes_root-requires
takes_root-requires c = along-low c.requires.along

pub returns-then-not-takes_root : goal.returns-then-not-takes_root
returns-then-not-takes_root c =
    let s = start-none c.requires.along c.on_level-above.ensures (sym c.takes_root.ensures ∙ c.if-not-takes_root.true) in
    record { stores = s.stores; marks_after = s.marks; under_value = s.under }

pub bounds-table-2 : goal.bounds-table-2
bounds-table-2 c = rw c.table-table.ensures (omega (arith, along-size c.requires.along))

pub root_of-requires : goal.root_of-requires
root_of-requires c = rw c.table-table.ensures record { table_value = c.requires.along.header; table_value_2 = c.requires.along.collection }

pub free_after-fresh-requires-clause-nodes_bound : goal.free_after-fresh-requires-clause-nodes_bound
free_after-fresh-requires-clause-nodes_bound c = rw c.table-table.ensures (along-size c.requires.along).few

pub free_after-fresh-requires-clause-a_le_nodes : goal.free_after-fresh-requires-clause-a_le_nodes
free_after-fresh-requires-clause-a_le_nodes c =
    let e = rw c.table-table.ensures at c.root_of.ensures in
    rw c.table-table.ensures (omega (arith, e, root-in c.requires.along))

pub returns-then-not-in_range : goal.returns-then-not-in_range
returns-then-not-in_range c =
    let t = c.table-table.ensures in
    let s = start-lost c.requires.along c.on_level-above.ensures (sym c.takes_root.ensures ∙ c.if-not-takes_root.false)
    (rw t at c.root_of.ensures) (rw t at c.free_after-fresh.ensures)
    (ranged (goal.at.returns-then-not-in_range c).After-in_range c.if-not-in_range.true) in
    record { stores = s.stores; marks_after = s.marks; under_value = s.under }

pub overflow_mul-x : goal.overflow_mul-x
overflow_mul-x c = omega (arith, (number-few c.requires.along).1)

pub overflow_sub-x : goal.overflow_sub-x
overflow_sub-x c = omega (arith, (number-few c.requires.along).0)

pub new_root-requires : goal.new_root-requires
new_root-requires c =
    let t = c.table-table.ensures in
    let a = c.requires.along in
    let r = ranged (goal.at.new_root-requires c).After-in_range c.if-not-in_range.false in
    record {
      word_bound = omega (arith, (number-few a).1);
      r_value = in-table a _ r;
      word_bound_2 = root-low a;
      room = root-room a c.on_level-above.ensures (sym c.takes_root.ensures ∙ c.if-not-takes_root.false) (rw t at c.root_of.ensures)
          (rw t at c.free_after-fresh.ensures) r c.args.writer.now c.requires.room;
    }

pub put-requires : goal.put-requires
put-requires c =
    let r = (range-iff _ _).0 (ranged (goal.at.put-requires c).After-in_range c.if-not-in_range.false) in
    omega (arith, r.1, c.requires.nodes_bound)

pub returns : goal.returns
returns c =
    let t = c.table-table.ensures in
    let s = start-grown c.requires.along c.on_level-above.ensures (sym c.takes_root.ensures ∙ c.if-not-takes_root.false)
    (rw t at c.root_of.ensures) (rw t at c.free_after-fresh.ensures)
    (ranged (goal.at.returns c).After-in_range c.if-not-in_range.false) c.new_root.ensures c.put.ensures in
    record { stores = s.stores; marks_after = s.marks; under_value = s.under }
