-- `opening::mark` meets its contract.
use Rattle.opening.proofs.Marking.{put-out}
use Rattle.opening.proofs.mark.Goals as goal

pub returns-else-x-marks : goal.returns-else-x-marks
returns-else-x-marks c = put-out _ _ c.if-x-marks.false
