-- `pointer::join` meets its contract.
use mathlib.Core.Path.{refl}
use Rattle.model.specs.Slots.{pointer_of}
use Rattle.pointer.proofs.join.Goals as goal

pub returns : goal.returns
unfolding pointer_of
returns c = refl
