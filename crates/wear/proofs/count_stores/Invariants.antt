-- `wear::count_stores` meets its contract.
use Rattle.std.proofs.Common.{◌≡◌, ℕ, ◌*◌, ◌<◌, length}
use Rattle.std.specs.Slice.Iter.{chunks_exact_rest, chunks_exact_size}
use Rattle.model.specs.Orders.{decode}
use Rattle.model.specs.Wear.{stored_to}
use Rattle.list_laws.proofs.Tools.{Each}
use Rattle.wear.proofs.Tallying.{Tally}
use Rattle.wear.proofs.count_stores.Given as goal

abbrev pub invariant-loop-pair : goal.invariant-loop-pair
invariant-loop-pair l = record {
  pairs : chunks_exact_size l.pair-iterator ≡ 2;
  room : length l.lines ≡ length l.initial.lines;
  below : Each (λ (w : ℕ). w < 8 * length l.initial.lines) (stored_to (decode (chunks_exact_rest l.pair-iterator)));
  tally : Tally l.list (chunks_exact_rest l.pair-iterator) l.total l.lines;
}
