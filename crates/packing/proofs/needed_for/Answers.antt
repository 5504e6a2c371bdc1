-- `packing::needed_for` meets its contract.
use mathlib.Core.Path.{◌∙◌}
use Rattle.packing.proofs.Fits.{needed-capped}
use Rattle.packing.proofs.needed_for.Goals as goal

pub returns : goal.returns
returns c = c.min-2.ensures ∙ needed-capped _ _ _ c.min.ensures c.needed.ensures
