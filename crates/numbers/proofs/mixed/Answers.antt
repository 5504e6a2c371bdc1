-- `numbers::mixed` meets its contract.
use mathlib.Core.Path.{refl}
use Rattle.numbers.specs.Cells.{mixed}
use Rattle.numbers.proofs.mixed.Goals as goal

pub returns : goal.returns
unfolding mixed
returns c = refl
