-- `pack::leaf_fence` meets its contract.
use Rattle.pack.proofs.Filling.{fence-first, fence-later}
use Rattle.pack.proofs.leaf_fence.Goals as goal

pub returns-then-j-eq0 : goal.returns-then-j-eq0
returns-then-j-eq0 c = fence-first _ _ c.if-j-eq0.true

pub returns : goal.returns
returns c = fence-later _ _ c.if-j-eq0.false
