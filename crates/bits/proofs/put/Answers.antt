-- `bits::put` meets its contract.
use Rattle.bits.proofs.Marks.{put-word}
use Rattle.bits.proofs.put.Goals as goal

pub returns : goal.returns
returns c = put-word _ _
