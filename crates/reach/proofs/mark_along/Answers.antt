-- `reach::mark_along` meets its contract. The loop keeps what the marks come to with the nodes that are left.
use Rattle.std.proofs.Common.{◌∙◌, arith}
use Rattle.reach.proofs.Members.{sound-words}
use Rattle.reach.proofs.Parents.{row-end, row-next}
use Rattle.reach.proofs.mark_along.Goals as goal

pub bounds-table-2 : goal.bounds-table-2
bounds-table-2 c = omega (arith, sound-words _ c.requires)

pub loop-n-preserved : goal.loop-n-preserved
loop-n-preserved c = row-next _ _ _ _ _ _ c.in-Some.ensures.steps c.mark_children.ensures ∙ c.loop-n.invariant

pub returns : goal.returns
returns c = row-end _ _ _ c.in-None.ensures.steps.0 ∙ c.loop-n.invariant
