-- `leaves::first_leaf` meets its contract.
use Rattle.std.proofs.Common.{◌∙◌}
use Rattle.leaves.proofs.HitLaws.{leaf-none, leaf-below}
use Rattle.leaves.proofs.first_leaf.Goals as goal

pub returns-then-top-gt15 : goal.returns-then-top-gt15
returns-then-top-gt15 c = leaf-none _ _ _ c.word-top.ensures c.if-top-gt15.true

pub returns : goal.returns
returns c = c.leftmost.ensures ∙ leaf-below _ _ _ c.word-top.ensures c.if-top-gt15.false
