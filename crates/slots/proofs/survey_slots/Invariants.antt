-- `slots::survey_slots` meets its contract. The loop keeps what the survey of the slots from i on, from the present state, comes to.
use Rattle.std.proofs.Common.{◌≡◌, ◌≤◌}
use Rattle.slots.specs.Scan.{used_from}
use Rattle.slots.specs.Surveyed.{surveyed}
use Rattle.slots.proofs.survey_slots.Given as goal

abbrev pub invariant-loop-i : goal.invariant-loop-i
invariant-loop-i l =
    (l.s.hidden ≤ l.i) ×
    (surveyed l.x.sibling l.bound (used_from l.slots l.i) l.s ≡ surveyed l.x.sibling l.bound (used_from l.slots 0) l.initial.s)
