-- `recordings::last_marked` meets its contract. The loop keeps that no node above m is marked.
use Rattle.std.proofs.Common.{arith}
use Rattle.recordings.proofs.RowLaws.{few-marked}
use Rattle.recordings.proofs.last_marked.Goals as goal

pub unmarked-skip-requires : goal.unmarked-skip-requires
unmarked-skip-requires c = few-marked _ _ _ _ c.requires c.loop-m.invariant (omega arith)
