-- `recordings::once` meets its contract. The loop keeps that whatever is there twice is a suspect.
use Rattle.recordings.proofs.RoundLaws.{first-stays}
use Rattle.recordings.proofs.once.Goals as goal

pub loop-round-init : goal.loop-round-init
loop-round-init c = first-stays _ _
