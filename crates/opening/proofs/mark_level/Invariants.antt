-- What the marks come to with the nodes that are left.
use Rattle.std.proofs.Common.{◌≡◌}
use Rattle.model.specs.Table.{nodes}
use Rattle.model.specs.Slots.{view}
use Rattle.model.specs.Marks.{put_each}
use Rattle.walk_laws.specs.Chain.{along}
use Rattle.leaves.specs.Siblings.{siblings_left}
use Rattle.opening.proofs.mark_level.Given as goal

abbrev pub invariant-loop-n : goal.invariant-loop-n
invariant-loop-n l = put_each (siblings_left l.n-iterator) l.marks ≡ put_each (along (view l.table) (nodes l.table) l.first) l.initial.marks
