-- `slots::gather` meets its contract. The loop keeps that the ways so far and the kept slots from i on make the whole.
use Rattle.std.proofs.Common.{◌≡◌, ◌+◌, ◌≤◌, ◌∷◌, ◌++◌, length}
use Rattle.model.specs.Slots.{slot}
use Rattle.slots.specs.Scan.{shown_from, kept_of}
use Rattle.slots.specs.Gathered.{span}
use Rattle.slots.proofs.gather.Given as goal

abbrev pub invariant-loop-i : goal.invariant-loop-i
invariant-loop-i l = (l.count ≤ l.i + 1) × (length l.keys ≡ 13) × (length l.pointers ≡ 13)
    × (span l.keys l.pointers 0 l.count ++ kept_of l.x.sibling l.bound (shown_from l.before l.slots l.i)
    ≡ slot l.x.fence l.x.left ∷ kept_of l.x.sibling l.bound (shown_from l.x.left l.slots 0))
