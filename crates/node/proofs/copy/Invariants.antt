-- `node::copy` meets its contract. The loop has copied the words before w.
use Rattle.std.proofs.Common.{◌≡◌, length, take}
use Rattle.node.proofs.copy.Given as goal

abbrev pub invariant-loop-w : goal.invariant-loop-w
invariant-loop-w l = (length l.to ≡ length l.from) × (take l.w l.to ≡ take l.w l.from)
