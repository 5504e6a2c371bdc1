-- `reach::kept_count` meets its contract.
use Rattle.reach.proofs.SlotCounts.{kept-read}
use Rattle.reach.proofs.kept_count.Goals as goal

pub returns : goal.returns
returns c = kept-read _ _ _ c.read-x.ensures _ _ c.word-bound.ensures c.kept_count.ensures
