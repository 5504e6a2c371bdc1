-- `insert::split_at` meets its contract.
use native.Mathlib.Omega.{arith}
use Rattle.insert.proofs.Splitting.{split-header, split-sound, split-low, lower-range, lower-plain, upper-there, parent-plain}
use Rattle.insert.proofs.split_at.Goals as goal

pub root_of-root-requires-clause-table_value : goal.root_of-root-requires-clause-table_value
root_of-root-requires-clause-table_value c =
    let t = c.table-table.ensures in
    rw t (split-header c.requires.splittable)

pub fresh-b-requires-clause-table_value : goal.fresh-b-requires-clause-table_value
fresh-b-requires-clause-table_value c =
    let t = c.table-table.ensures in
    rw t (split-sound c.requires.splittable)

pub fresh-b-requires-clause-a_bound : goal.fresh-b-requires-clause-a_bound
fresh-b-requires-clause-a_bound c =
    let t = c.table-table.ensures in
    rw t (lower-range c.requires.splittable (rw t at c.root_of-root.ensures) (rw t at c.standing-a.ensures)).1

pub overflow_add-l : goal.overflow_add-l
overflow_add-l c = omega (arith, split-low c.requires.splittable)

pub split-requires-clause-a_value : goal.split-requires-clause-a_value
split-requires-clause-a_value c =
    let t = c.table-table.ensures in
    (lower-plain c.requires.splittable (rw t at c.root_of-root.ensures) (rw t at c.standing-a.ensures)).there

pub split-requires-clause-a_value_2 : goal.split-requires-clause-a_value_2
split-requires-clause-a_value_2 c =
    let t = c.table-table.ensures in
    (lower-plain c.requires.splittable (rw t at c.root_of-root.ensures) (rw t at c.standing-a.ensures)).plain

pub split-requires-clause-b_value : goal.split-requires-clause-b_value
split-requires-clause-b_value c =
    let t = c.table-table.ensures in
    upper-there c.requires.splittable (rw t at c.root_of-root.ensures) (rw t at c.standing-a.ensures) (rw t at c.fresh-b.ensures.value)
    (rw t at c.standing-parent.ensures)

pub split-requires-clause-p_value : goal.split-requires-clause-p_value
split-requires-clause-p_value c =
    let t = c.table-table.ensures in
    (parent-plain c.requires.splittable (rw t at c.root_of-root.ensures) (rw t at c.standing-a.ensures) (rw t at c.fresh-b.ensures.value)
    (rw t at c.standing-parent.ensures)).there

pub split-requires-clause-p_value_2 : goal.split-requires-clause-p_value_2
split-requires-clause-p_value_2 c =
    let t = c.table-table.ensures in
    (parent-plain c.requires.splittable (rw t at c.root_of-root.ensures) (rw t at c.standing-a.ensures) (rw t at c.fresh-b.ensures.value)
    (rw t at c.standing-parent.ensures)).plain
