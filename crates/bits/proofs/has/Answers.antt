-- `bits::has` meets its contract.
use mathlib.Core.Path.{refl}
use Rattle.bits.specs.Bits.{has}
use Rattle.bits.proofs.has.Goals as goal

pub returns : goal.returns
unfolding has
returns c = refl
