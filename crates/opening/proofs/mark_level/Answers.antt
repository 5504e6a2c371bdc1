-- `opening::mark_level` meets its contract.
use Rattle.std.proofs.Common.{◌∙◌}
use Rattle.opening.proofs.Marking.{level-end, level-next}
use Rattle.opening.proofs.mark_level.Goals as goal

pub loop-n-preserved : goal.loop-n-preserved
loop-n-preserved c = level-next _ _ _ _ _ c.in-Some.ensures.steps c.mark.ensures ∙ c.loop-n.invariant

pub returns : goal.returns
returns c = level-end _ _ c.in-None.ensures.steps.0 ∙ c.loop-n.invariant
