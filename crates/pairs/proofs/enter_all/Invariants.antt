-- `pairs::enter_all` meets its contract. The loop keeps what entering the numbers that are left comes to.
use Rattle.std.proofs.Common.{◌≡◌, map}
use Rattle.std.specs.Slice.Iter.{chunks_exact_rest, chunks_exact_size}
use Rattle.model.specs.Slots.{recording, slots_of}
use Rattle.numbers.specs.Cells.{entered_all}
use Rattle.pairs.specs.Passes.{in_pass}
use Rattle.pairs.proofs.Passes.{Entering}
use Rattle.pairs.proofs.enter_all.Given as goal

abbrev pub invariant-loop-pair : goal.invariant-loop-pair
invariant-loop-pair l = record {
  pairs : chunks_exact_size l.pair-iterator ≡ 2;
  entering : Entering (in_pass l.pass.low l.pass.high)
      (entered_all (in_pass l.pass.low l.pass.high) (map recording (slots_of l.pairs)) l.initial.cells)
      (chunks_exact_rest l.pair-iterator) l.cells;
}
