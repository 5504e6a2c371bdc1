-- `keeping::count_used` meets its contract.
use Rattle.keeping.proofs.Used.{using-start, using-step, using-end}
use Rattle.keeping.proofs.count_used.Goals as goal

pub loop-n-init : goal.loop-n-init
loop-n-init c = using-start _ _

pub loop-n-preserved : goal.loop-n-preserved
loop-n-preserved c = let l = c.loop-n.invariant in using-step _ _ _ _ l c.loop-n-test.true _ c.used_slots-used.ensures

pub returns : goal.returns
returns c = let l = c.loop-n.invariant in using-end _ _ _ _ l c.loop-n-test.false
