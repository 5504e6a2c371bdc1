-- `quick_insert::split_run` meets its contract. The loop keeps what is left of the run (`Left`).
use Rattle.std.proofs.Common.{[], drop}
use Rattle.model.specs.Summary.{going, split_way}
use Rattle.orders.specs.Desk.{of, stored_all}
use Rattle.quick_insert.proofs.Splitting.{Left}
use Rattle.quick_insert.proofs.split_run.Given as goal

abbrev pub invariant-loop-a : goal.invariant-loop-a
invariant-loop-a l =
    let was = l.initial in
    let g = split_way l.nodes l.key l.run (going [] was.writer.table.now was.marks l.under) in
    record {
      left : Left l.nodes l.key (drop l.a-index l.run) was.writer l.writer l.marks l.p
          (stored_all g.stores (of was.writer)) g.marks g.under;
    }
