-- `wear::mark` meets its contract. The loop's invariant: the orders of the words left, marked now, leave what all of them leave.
use Rattle.std.proofs.Common.{◌≡◌, ℕ, ◌*◌, ◌<◌, length}
use Rattle.std.specs.Slice.Iter.{chunks_exact_rest, chunks_exact_size}
use Rattle.model.specs.Orders.{decode}
use Rattle.model.specs.Wear.{stored_to}
use Rattle.list_laws.proofs.Tools.{Each}
use Rattle.wear.proofs.Marking.{Marking}
use Rattle.wear.proofs.mark.Given as goal

abbrev pub invariant-loop-pair : goal.invariant-loop-pair
invariant-loop-pair l = record {
  pairs : chunks_exact_size l.pair-iterator ≡ 2;
  room : length l.marks ≡ length l.initial.marks;
  below : Each (λ (w : ℕ). w < 64 * length l.initial.marks) (stored_to (decode (chunks_exact_rest l.pair-iterator)));
  marking : Marking l.list l.initial.marks (chunks_exact_rest l.pair-iterator) l.marks;
}
