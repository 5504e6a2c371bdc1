-- `reach::first_parent` meets its contract.
use Rattle.std.proofs.Common.{◌∙◌}
use Rattle.reach.proofs.Parents.{parent-start}
use Rattle.reach.proofs.first_parent.Goals as goal

pub returns : goal.returns
returns c = c.leftmost.ensures ∙ rw c.saturating_sub.ensures (parent-start _ _ _ c.word-top.ensures)
