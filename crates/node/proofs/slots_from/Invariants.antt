-- The words of the first i slots are the table's.
use Rattle.std.proofs.Common.{◌≡◌, ◌*◌, length, take, drop}
use Rattle.node.proofs.slots_from.Given as goal

abbrev pub invariant-loop-i : goal.invariant-loop-i
invariant-loop-i l = (length l.slots ≡ 24) × (take (2 * l.i) l.slots ≡ take (2 * l.i) (drop l.first l.table))
