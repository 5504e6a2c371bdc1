-- `sentinels::line_slot` meets its contract. The loop keeps that the line's slots from i on tell what all of them do.
use Rattle.std.proofs.Common.{◌≡◌, ℕ, ◌+◌, ◌-◌, Bool, take}
use Rattle.model.specs.Slots.{shown}
use Rattle.slots.specs.Scan.{used_from}
use Rattle.sentinels.specs.Lines.{words_in, line_of, Tests, first_taken}
use Rattle.sentinels.proofs.line_slot.Given as goal

abbrev pub invariant-loop-i : goal.invariant-loop-i
invariant-loop-i g l =
    (p : ℕ → Bool) → Tests (goal.F-post g l.takes) p
    → first_taken p (shown l.before (take (l.first + 4 - l.i) (used_from (words_in l.node) l.i))) ≡ first_taken p (line_of l.node l.first)
