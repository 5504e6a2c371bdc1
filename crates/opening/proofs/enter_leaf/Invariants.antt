-- What the cells come to with the slots from i on.
use Rattle.std.proofs.Common.{◌≡◌}
use Rattle.slots.specs.Scan.{used_from}
use Rattle.opening.proofs.Entering.{slots_come}
use Rattle.opening.proofs.enter_leaf.Given as goal

abbrev pub invariant-loop-i : goal.invariant-loop-i
invariant-loop-i l =
    slots_come l.collection l.x.sibling l.bound l.cells l.before (used_from l.x.slots l.i)
    ≡ slots_come l.collection l.x.sibling l.bound l.initial.cells l.x.left (used_from l.x.slots 0)
