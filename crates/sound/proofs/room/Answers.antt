-- `sound::room` meets its contract.
use Rattle.sound.proofs.JudgeLaws.{room-is}
use Rattle.sound.proofs.room.Goals as goal

pub returns : goal.returns
returns c = room-is _ _ _ _ c.read-x.ensures c.shown_count.ensures
