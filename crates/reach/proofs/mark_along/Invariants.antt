-- `reach::mark_along` meets its contract. The loop keeps what the marks come to with the nodes that are left.
use Rattle.std.proofs.Common.{◌≡◌}
use Rattle.model.specs.Table.{nodes}
use Rattle.model.specs.Slots.{view}
use Rattle.model.specs.Reached.{flat}
use Rattle.walk_laws.specs.Chain.{along}
use Rattle.leaves.specs.Siblings.{siblings_left}
use Rattle.reach.specs.Marks.{put_all, named_by}
use Rattle.reach.proofs.mark_along.Given as goal

abbrev pub invariant-loop-n : goal.invariant-loop-n
invariant-loop-n l =
    put_all (flat (named_by l.table) (siblings_left l.n-iterator)) l.marks
    ≡ put_all (flat (named_by l.table) (along (view l.table) (nodes l.table) l.first)) l.initial.marks
