-- `leaves::leftmost` meets its contract. The loop keeps the node that left leads to from the present one.
use Rattle.std.proofs.Common.{arith, ◌∙◌}
use Rattle.leaves.proofs.HitLaws.{leaf-here, leaf-down}
use Rattle.leaves.proofs.leftmost.Goals as goal

pub loop-preserved : goal.loop-preserved
loop-preserved c = leaf-down _ _ _ _ _ _ (omega arith) c.word-n.ensures ∙ c.loop.invariant

pub returns : goal.returns
returns c = leaf-here _ _ _ _ (omega arith) c.loop.invariant
