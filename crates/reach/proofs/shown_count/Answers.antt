-- `reach::shown_count` meets its contract.
use Rattle.reach.proofs.SlotCounts.{shown-read}
use Rattle.reach.proofs.shown_count.Goals as goal

pub returns : goal.returns
returns c = shown-read _ _ _ c.read-x.ensures _ c.shown_count.ensures
