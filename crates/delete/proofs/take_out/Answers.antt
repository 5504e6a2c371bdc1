-- `delete::take_out` meets its contract.
use Rattle.two_laws.proofs.CollectionTwo.{settled-head}
use Rattle.delete.proofs.Deleting.{Found, found, leaf-plain, out-room, stays-stored, parent-plain, neighbour-plain, free-room, free-stored}
use Rattle.delete.proofs.take_out.Goals.{After-frees_leaf-frees}
use Rattle.delete.proofs.take_out.Goals as goal

-- what was looked up before the first store
found-at : (c : After-frees_leaf-frees) → let a =
    c.args in Found a.collection a.key a.writer.now c.root_of-root.result c.standing-leaf.result c.standing-parent.result
    c.frees_leaf-frees.result
found-at c =
    let r = c.requires in
    found {w = c.args.writer.now} c.table-table.ensures r.table_value r.table_value_2 r.table_value_3 r.room c.root_of-root.ensures
    c.standing-leaf.ensures c.standing-parent.ensures c.frees_leaf-frees.ensures

pub root_of-root-requires : goal.root_of-root-requires
root_of-root-requires c =
    rw c.table-table.ensures record { table_value = settled-head _ c.requires.table_value_2; table_value_2 = c.requires.table_value }

pub shift_out-requires : goal.shift_out-requires
shift_out-requires c =
    let f = found-at (goal.at.shift_out-requires c).After-frees_leaf-frees in
    record { n_value = (leaf-plain f).there; n_value_2 = (leaf-plain f).plain; room = out-room f }

pub returns-else-frees : goal.returns-else-frees
returns-else-frees c =
    let f = found-at (goal.at.returns-else-frees c).After-frees_leaf-frees in
    stays-stored f c.if-frees.false c.shift_out.ensures

pub free_leaf-requires : goal.free_leaf-requires
free_leaf-requires c =
    let f = found-at (goal.at.free_leaf-requires c).After-frees_leaf-frees in
    let z = c.if-frees.true in
    let o = c.shift_out.ensures in
    record {
      p_value = (parent-plain f z o).there;
      p_value_2 = (parent-plain f z o).plain;
      x_value = neighbour-plain f z o;
      room = free-room f z o;
    }

pub returns-then-frees : goal.returns-then-frees
returns-then-frees c =
    let f = found-at (goal.at.returns-then-frees c).After-frees_leaf-frees in
    free-stored f c.if-frees.true c.shift_out.ensures c.free_leaf.ensures
