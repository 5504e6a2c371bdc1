-- `judge::judge_orders` meets its contract. The loop keeps that the orders so far held, and what is left comes to the answer.
use Rattle.std.specs.Slice.Iter.{chunks_exact_rest, chunks_exact_size}
use Rattle.std.specs.Iterator.Adapters.{enumerate_source, enumerate_count}
use Rattle.std.proofs.Common.{◌≡◌}
use Rattle.model.specs.Reached.{maps_of}
use Rattle.judge.specs.Wanted.{wanted}
use Rattle.judge.proofs.Going.{Going}
use Rattle.judge.proofs.judge_orders.Given as goal

abbrev pub invariant-loop-i : goal.invariant-loop-i
invariant-loop-i l = record {
  pairs : chunks_exact_size (enumerate_source l.i-iterator) ≡ 2;
  going : Going (maps_of l.plan.table.now) (wanted l.plan.change l.plan.table.now) l.plan.table.now l.list l.image l.line
      (enumerate_count l.i-iterator) (chunks_exact_rest (enumerate_source l.i-iterator));
}
