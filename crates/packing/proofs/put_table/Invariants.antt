-- `packing::put_table` meets its contract: the slice of the nodes has so many.
use Rattle.std.proofs.Common.{◌/◌, length}
use Rattle.packing.proofs.put_table.Given as goal

abbrev pub ghost-fill_both : goal.ghost-fill_both
ghost-fill_both a = length a.words.now / 32
