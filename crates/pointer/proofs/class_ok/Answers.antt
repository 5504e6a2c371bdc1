-- `pointer::class_ok` meets its contract.
use mathlib.Core.Path.{refl}
use Rattle.model.specs.Slots.{class_ok}
use Rattle.pointer.proofs.class_ok.Goals as goal

pub returns : goal.returns
unfolding class_ok
returns c = refl
