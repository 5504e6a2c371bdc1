-- `keeping::count_kept` meets its contract.
use Rattle.keeping.proofs.Nodes.{counting-start, counting-step, counting-end}
use Rattle.keeping.proofs.count_kept.Goals as goal

pub loop-j-init : goal.loop-j-init
loop-j-init c = counting-start _ _

pub loop-j-preserved : goal.loop-j-preserved
loop-j-preserved c = let l = c.loop-j.invariant in let t = c.loop-j-test.true in counting-step _ _ _ _ _ l t _ _ c.mark_node-kept.ensures

pub returns : goal.returns
returns c = let l = c.loop-j.invariant in counting-end _ _ _ _ _ l c.loop-j-test.false
