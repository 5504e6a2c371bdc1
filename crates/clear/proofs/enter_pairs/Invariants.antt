-- The cells hold the recordings of the pairs from i on.
use Rattle.std.proofs.Common.{◌≡◌, ◌-◌, ◌≤◌}
use Rattle.clear.specs.New.{recordings_of, Holds, entered_down}
use Rattle.clear.proofs.enter_pairs.Given as goal

abbrev pub invariant-loop-i : goal.invariant-loop-i
invariant-loop-i l = (l.from ≤ l.i) × Holds l.cells (recordings_of l.pairs l.i l.to)
    × (entered_down l.pairs l.from (l.i - l.from) l.cells ≡ entered_down l.pairs l.from (l.to - l.from) l.initial.cells)
