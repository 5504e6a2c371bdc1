-- `slots::above` meets its contract. The loop keeps that the slots from i on answer as all of them do.
use Rattle.std.proofs.Common.{◌≡◌}
use Rattle.model.specs.Search.{first_above}
use Rattle.slots.specs.Scan.{shown_from, kept_of}
use Rattle.slots.proofs.above.Given as goal

abbrev pub invariant-loop-i : goal.invariant-loop-i
invariant-loop-i l =
    first_above l.key (kept_of l.sibling l.bound (shown_from l.before l.slots l.i))
    ≡ first_above l.key (kept_of l.sibling l.bound (shown_from l.left l.slots 0))
