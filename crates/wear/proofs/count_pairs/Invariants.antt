-- `wear::count_pairs` meets its contract.
use Rattle.std.proofs.Common.{◌≡◌, ◌+◌, ◌-◌, ◌<◌, ◌≤◌, true, length}
use Rattle.bits.specs.Bits.{has}
use Rattle.wear_laws.specs.Wearing.{extents_in}
use Rattle.wear.proofs.Running.{left}
use Rattle.wear.proofs.count_pairs.Given as goal

abbrev pub invariant-loop-w : goal.invariant-loop-w
invariant-loop-w l =
    (l.w ≤ l.len) × (l.pairs ≤ l.w) × (l.w < l.len → has l.marks l.w ≡ true)
    × (l.pairs + length (left (has l.marks) l.len l.w) ≡ length (extents_in (has l.marks) 0 l.len))

abbrev pub decreases-loop-w : goal.decreases-loop-w
decreases-loop-w l = l.len - l.w
