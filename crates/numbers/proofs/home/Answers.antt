-- `numbers::home` meets its contract.
use Rattle.std.proofs.Common.{refl, mod-lt}
use Rattle.numbers.proofs.Trying.{home-is}
use Rattle.numbers.proofs.home.Goals as goal

pub returns : goal.returns
returns c = record { value = home-is _ _ _ _ c.mixed.ensures refl; upper_bound = mod-lt _ c.requires }
