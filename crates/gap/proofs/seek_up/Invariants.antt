-- `gap::seek_up` meets its contract.
use Rattle.gap.specs.Around.{around, Under}
use Rattle.gap.proofs.Around.{Moved}
use Rattle.gap.proofs.seek_up.Given as goal

abbrev pub invariant-loop-i : goal.invariant-loop-i
invariant-loop-i l =
    Moved l.initial.pairs l.kept l.at l.gap l.pairs l.i
    × (Under (around l.initial.pairs l.at l.kept) l.key l.at → Under (around l.initial.pairs l.at l.kept) l.key l.i)
