-- `slots::kept_count` meets its contract. The loop keeps that the count and the kept slots from i on make the whole.
use Rattle.std.proofs.Common.{◌≡◌, ◌+◌, ◌≤◌, length}
use Rattle.slots.specs.Scan.{shown_from, kept_of}
use Rattle.slots.proofs.kept_count.Given as goal

abbrev pub invariant-loop-i : goal.invariant-loop-i
invariant-loop-i l = (l.count ≤ l.i)
    × (l.count + length (kept_of l.sibling l.bound (shown_from l.before l.slots l.i))
    ≡ length (kept_of l.sibling l.bound (shown_from l.left l.slots 0)))
