-- `pointer::class` meets its contract.
use mathlib.Core.Path.{refl}
use Rattle.model.specs.Slots.{class_of}
use Rattle.pointer.proofs.class.Goals as goal

pub returns : goal.returns
unfolding class_of
returns c = refl
