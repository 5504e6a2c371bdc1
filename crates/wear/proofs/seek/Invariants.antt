-- `wear::seek` meets its contract. The loop's invariant: no number passed is one that is wanted.
use Rattle.std.proofs.Common.{◌≡◌, ℕ, ◌-◌, ◌<◌, ◌≤◌, Bool, not, eqb}
use Rattle.bits.specs.Bits.{has}
use Rattle.wear.proofs.seek.Given as goal

-- the constant as the number that the code has for it
abbrev wanted : ℕ → Bool
wanted n = not (eqb n 0)

abbrev pub invariant-loop-w : goal.invariant-loop-w
invariant-loop-w g l = (l.from ≤ l.w) × (l.w ≤ l.len) × ((v : ℕ) → l.from ≤ v → v < l.w → has l.marks v ≡ not (wanted g.row.WANTED))

abbrev pub decreases-loop-w : goal.decreases-loop-w
decreases-loop-w g l = l.len - l.w
