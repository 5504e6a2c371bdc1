-- `packing::maps_ok` meets its contract.
use Rattle.std.proofs.Common.{◌∙◌, eq-eqb}
use Rattle.packing.proofs.Fits.{first-bad, ok-alone, ok-beside}
use Rattle.packing.proofs.maps_ok.Goals as goal

pub returns-then-maps-eq1 : goal.returns-then-maps-eq1
returns-then-maps-eq1 c = eq-eqb _ _ c.if-maps-eq1.true ∙ ok-alone _ _ _ _ c.ok.ensures c.if-ok.true c.if-maps-eq1.true

pub returns-else-maps-eq1 : goal.returns-else-maps-eq1
returns-else-maps-eq1 c = ok-beside _ _ _ _ c.ok.ensures c.if-ok.true c.if-maps-eq1.false _ c.ok-else-maps-eq1.ensures

pub returns-else-ok : goal.returns-else-ok
returns-else-ok c = c.if-ok.false ∙ first-bad _ _ _ _ c.ok.ensures c.if-ok.false
