-- `sentinels::begin` meets its contract. The loop keeps that the slots from i on tell what comes before slot first as all of them do.
use Rattle.std.proofs.Common.{◌≡◌, ◌-◌}
use Rattle.slots.specs.Scan.{used_from}
use Rattle.sentinels.specs.Lines.{left_in, words_in, slots_in, begun_in}
use Rattle.sentinels.proofs.begin.Given as goal

abbrev pub invariant-loop-i : goal.invariant-loop-i
invariant-loop-i l =
    begun_in l.before (l.first - l.i) (used_from (words_in l.node) l.i) ≡ begun_in (left_in l.node) l.first (slots_in l.node)
