-- `marks::open_word` meets its contract. The loop keeps that the words before word i are full.
use Rattle.std.proofs.Common.{◌≡◌, ℕ, ◌<◌, ◌≤◌}
use Rattle.model.specs.Table.{MARK, at}
use Rattle.marks.proofs.open_word.Given as goal

abbrev pub invariant-loop-i : goal.invariant-loop-i
invariant-loop-i l = record {
  no-less : l.from ≤ l.i;
  full : (j : ℕ) → l.from ≤ j → j < l.i → at l.marks j ≡ MARK;
}
