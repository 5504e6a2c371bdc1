-- `slots::scan` meets its contract. The loop keeps that the slots from i on say, after what was seen so far, what all of them do.
use Rattle.std.proofs.Common.{◌≡◌}
use Rattle.model.specs.Slots.{shown}
use Rattle.slots.specs.Scan.{used_from}
use Rattle.slots.proofs.Kept.{seen_after}
use Rattle.slots.proofs.scan.Given as goal

abbrev pub invariant-loop-i : goal.invariant-loop-i
invariant-loop-i l =
    seen_after l.key l.way l.held (shown l.before (used_from l.slots l.i)) ≡ seen_after l.key l.left 0 (shown l.left (used_from l.slots 0))
