-- `pointer::recording` meets its contract.
use mathlib.Core.Path.{refl}
use Rattle.model.specs.Slots.{recording_of}
use Rattle.pointer.proofs.recording.Goals as goal

pub returns : goal.returns
unfolding recording_of
returns c = refl
