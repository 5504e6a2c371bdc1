-- What marks and cells come to with the leaves that are left.
use Rattle.std.proofs.Common.{◌≡◌}
use Rattle.model.specs.Table.{nodes}
use Rattle.model.specs.Slots.{view}
use Rattle.model.specs.Reached.{flat, kept}
use Rattle.model.specs.Marks.{put_each}
use Rattle.model.specs.Cells.{entered_all}
use Rattle.model.specs.Summary.{cells_of}
use Rattle.walk_laws.specs.Chain.{along}
use Rattle.leaves.specs.Siblings.{siblings_left}
use Rattle.opening.proofs.enter_leaves.Given as goal

abbrev pub invariant-loop-leaf : goal.invariant-loop-leaf
invariant-loop-leaf l =
    (put_each (siblings_left l.leaf-iterator) l.marks ≡ put_each (along (view l.table) (nodes l.table) l.first) l.initial.marks)
    × (entered_all l.cells (cells_of l.collection (flat (kept (view l.table)) (siblings_left l.leaf-iterator)))
    ≡ entered_all l.initial.cells (cells_of l.collection (flat (kept (view l.table)) (along (view l.table) (nodes l.table) l.first))))
