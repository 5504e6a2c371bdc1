-- `gap::seek_down` meets its contract.
use Prim.Native.Nat.{◌≤◌}
use Rattle.gap.proofs.Around.{Moved}
use Rattle.gap.proofs.seek_down.Given as goal

abbrev pub invariant-loop-i : goal.invariant-loop-i
invariant-loop-i l = Moved l.initial.pairs l.kept l.at l.gap l.pairs l.i × (l.i ≤ l.at)
