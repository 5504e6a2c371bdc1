-- `slots::hidden_place` meets its contract. The loop keeps that i and the place among the slots from i on make the whole.
use Rattle.std.proofs.Common.{◌≡◌, ◌+◌}
use Rattle.model.specs.Shifts.{hidden_place}
use Rattle.slots.specs.Scan.{used_from, in_use_of}
use Rattle.slots.proofs.hidden_place.Given as goal

abbrev pub invariant-loop-i : goal.invariant-loop-i
invariant-loop-i l = l.i + hidden_place l.before (used_from l.slots l.i) ≡ hidden_place l.left (in_use_of l.slots)
