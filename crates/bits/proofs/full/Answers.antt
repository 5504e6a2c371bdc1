-- `bits::full` meets its contract.
use mathlib.Core.Path.{refl}
use Rattle.bits.specs.Bits.{full}
use Rattle.bits.proofs.full.Goals as goal

pub returns : goal.returns
unfolding full
returns c = refl
