-- `packing::fill_both` meets its contract.
use Rattle.packing.proofs.fill_both.Given as goal

abbrev pub ghost-fill : goal.ghost-fill
ghost-fill g a = g.top
