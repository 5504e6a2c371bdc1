-- `salvage::enter_nodes` meets its contract.
use Rattle.std.proofs.Common.{arith, rules}
use Rattle.salvage.proofs.Entering.{header-size, first-ready, second-ready, both-toured}
use Rattle.salvage.proofs.enter_nodes.Goals as goal

pub bounds-table-1 : goal.bounds-table-1
bounds-table-1 c = let h = header-size _ c.requires in omega (arith, h)

pub tour-first-requires : goal.tour-first-requires
tour-first-requires c = first-ready _ _ c.requires c.told-order

pub bounds-table-3 : goal.bounds-table-3
bounds-table-3 c = let h = header-size _ c.requires in omega (arith, h)

pub tour-all-requires : goal.tour-all-requires
tour-all-requires c = let a = c.args in
    let t = c.tour-first in
    second-ready a.table.now a.order.now c.requires c.told-order t.new.order t.result (search rules)
    t.ensures.order_after t.ensures.lower_bound.1
    t.new.marks t.ensures.marked

pub returns : goal.returns
returns c = let a = c.args in
    let t = c.tour-first in
    let u = c.tour-all in
    let both = both-toured a.table.now a.order.now c.requires c.told-order t.new.order t.result (search rules)
    t.ensures.order_after t.ensures.lower_bound.1
    u.new.order u.result (search rules) u.ensures.order_after u.ensures.lower_bound in
    record { toured = both.0; few = both.1 }
