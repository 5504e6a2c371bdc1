-- `recordings::is_in` meets its contract.
use Rattle.std.proofs.Common.{ap}
use Rattle.model.specs.SoundTest.{elem}
use Rattle.recordings.proofs.OnceLaws.{none-there}
use Rattle.recordings.proofs.is_in.Goals as goal

pub returns-in_default : goal.returns-in_default
unfolding elem
returns-in_default c = ap (elem c.args.number) (none-there _ _ c.ways.ensures.numbers c.in_default.is)
