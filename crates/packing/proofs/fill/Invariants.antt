-- `packing::fill` meets its contract.
use Rattle.packing.proofs.fill.Given as goal

abbrev pub ghost-pack : goal.ghost-pack
ghost-pack g a = g.top
