-- `reach::mark` meets its contract.
use native.Mathlib.Omega.{arith}
use Rattle.reach.proofs.Marking.{put-out}
use Rattle.reach.proofs.mark.Goals as goal

pub returns-then-n-gt-LAST : goal.returns-then-n-gt-LAST
returns-then-n-gt-LAST c = put-out _ _ (omega arith)
