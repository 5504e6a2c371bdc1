-- `statistics::hidden_slot` meets its contract.
use Rattle.statistics.proofs.Lefts.{slot-is}
use Rattle.statistics.proofs.hidden_slot.Goals as goal

pub returns : goal.returns
returns c = slot-is _ _ _ _ c.read-x.ensures c.hidden_place.ensures.value
