-- `keeping::slot_of` meets its contract.
use Rattle.keeping.proofs.Marks.{slot-read}
use Rattle.keeping.proofs.slot_of.Goals as goal

pub returns : goal.returns
returns c = slot-read _ _ _ _ c.read-n.ensures
