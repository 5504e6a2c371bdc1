-- `short_scripts::count_bad` meets its contract.
use Rattle.std.proofs.Common.{rules, tests, arith, refl, ◌+◌, ◌∙◌}
use Rattle.std.proofs.lemmas.Iterator.{YieldsList-from_range}
use Rattle.std.proofs.lemmas.Iterator.Consumers.{YieldsList-from_filter, count_from_yields_List, YieldsList-at}
use Rattle.model.specs.Orders.{carried_out}
use Rattle.short_scripts.specs.Held.{pairs}
use Rattle.short_scripts.specs.Met.{is_bad}
use Rattle.short_scripts.proofs.Counting.{counted}
use Rattle.short_scripts.proofs.count_bad.Goals as goal

pub returns : goal.returns
returns c = let a = c.args in
    count_from_yields_List c.filter.result c.count.result c.count.ensures.ran
    (YieldsList-from_filter _ (λ k. is_bad (pairs a.old) (pairs a.new) (carried_out k a.list.now a.table))
    (YieldsList-at c.filter.ensures.source (YieldsList-from_range 0 (a.count + 1) (a.count + 1) refl (omega arith)))
    c.filter.ensures.closure (λ x r q k. search (rules, tests)))
    ∙ counted (pairs a.old) (pairs a.new) a.table a.list.now 0 (a.count + 1)
