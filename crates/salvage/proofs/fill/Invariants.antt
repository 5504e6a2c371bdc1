-- `salvage::fill` meets its contract: the slice of a packing has so many nodes.
use Rattle.std.proofs.Common.{◌/◌, length}
use Rattle.salvage.proofs.fill.Given as goal

abbrev pub ghost-pack : goal.ghost-pack
ghost-pack a = length a.nodes.now / 32
