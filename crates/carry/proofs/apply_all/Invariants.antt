-- The orders of the words left lie in the table, and carried out now they leave what all of them leave.
use Rattle.std.proofs.Common.{◌≡◌, true, length}
use Rattle.std.specs.Slice.Iter.{chunks_exact_rest, chunks_exact_size}
use Rattle.model.specs.Orders.{decode, all_inside, carry}
use Rattle.carry.proofs.apply_all.Given as goal

abbrev pub invariant-loop-pair : goal.invariant-loop-pair
invariant-loop-pair l = record {
  pairs : chunks_exact_size l.pair-iterator ≡ 2;
  room : length l.table ≡ length l.initial.table;
  inside : all_inside (length l.initial.table) (decode (chunks_exact_rest l.pair-iterator)) ≡ true;
  carried : carry (decode (chunks_exact_rest l.pair-iterator)) l.table ≡ carry (decode l.list) l.initial.table;
}
