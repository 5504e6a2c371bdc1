-- `packing::outgrows` meets its contract.
use Rattle.packing.proofs.Fits.{grows-alone, grows-beside}
use Rattle.packing.proofs.outgrows.Goals as goal

pub returns-then-maps-eq1 : goal.returns-then-maps-eq1
returns-then-maps-eq1 c = grows-alone _ _ _ _ _ c.requires c.needed_for-one.ensures c.if-maps-eq1.true

pub returns : goal.returns
returns c = grows-beside _ _ _ _ _ c.requires c.needed_for-one.ensures c.if-maps-eq1.false _ c.needed_for-two.ensures
