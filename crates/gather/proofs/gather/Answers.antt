-- `gather::gather` meets its contract.
use Rattle.model.specs.Salvage.{gathered_along}
use Rattle.gather.proofs.Slots.{front-long, front-fits}
use Rattle.gather.proofs.Leaves.{cleared-standing, closed-pairs}
use Rattle.gather.proofs.gather.Goals as goal

pub gather_nodes-t-requires : goal.gather_nodes-t-requires
gather_nodes-t-requires c = let a = c.args in
    let k = c.clear in (
      c.requires.along,
      cleared-standing a.table.now a.order.now a.words.now a.bound a.report.now c.requires k.new.nodes
          k.ensures,
      c.requires.most,
    )

pub slice_bounds-close-end-2 : goal.slice_bounds-close-end-2
slice_bounds-close-end-2 c = let g = c.gather_nodes-t in
    front-long g.new.words c.args.bound g.result g.ensures.standing.0

pub close-requires : goal.close-requires
close-requires c = let g = c.gather_nodes-t in
    front-fits g.new.words c.args.bound g.result g.ensures.standing.0

pub returns : goal.returns
returns c = let a = c.args in
    let g = c.gather_nodes-t in
    let k = c.close in
    let w = g.new.words in
    let r = g.new.report in record {
      result_after = closed-pairs w a.bound r g.result (gathered_along a.table.now a.order.now) k.new.pairs g.ensures.standing.0
          g.ensures.result_after k.auto.pairs k.ensures;
      kept_le_bound =
          (g.ensures.standing.0.few, g.ensures.standing.1);
    }
