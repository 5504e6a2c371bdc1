-- `statistics::codes_along` meets its contract: the sum of what each leaf along the siblings has. That the map yields these numbers stands
-- in both
-- answers: a law of it would have to write out what std says of a map's closure, longer than the chain.
use Rattle.std.proofs.Common.{arith, tests, rules, length, ◌∙◌}
use Rattle.std.proofs.lemmas.Iterator.{YieldsList-from_map}
use Rattle.std.proofs.lemmas.Iterator.Consumers.{YieldsList-at, YieldsList-from_first, sum_by_from_yields_List, fits_by_from_yields_list}
use Rattle.model.specs.Slots.{view}
use Rattle.model.specs.Reached.{kept}
use Rattle.walk_laws.specs.Chain.{along}
use Rattle.leaves.specs.Siblings.{siblings_left}
use Rattle.statistics.proofs.Codes.{codes-sum, codes-bound}
use Rattle.statistics.proofs.codes_along.Goals as goal

pub sum-requires-clause-fits : goal.sum-requires-clause-fits
sum-requires-clause-fits c = let a = c.args in let t = a.table.now in
    fits_by_from_yields_list (λ n. length (kept (view t) n)) _ c.map.result _
    (YieldsList-from_map _ (λ n. length (kept (view t) n))
    (YieldsList-at c.map.ensures.source (YieldsList-from_first (λ x. x) siblings_left _ c.new.ensures)) c.map.ensures.closure
    (λ x r q k. search (rules, tests)))
    (omega (arith, codes-sum t (along (view t) a.most a.first), codes-bound t a.most a.first, c.requires))

pub returns : goal.returns
returns c = let a = c.args in let t = a.table.now in
    sum_by_from_yields_List (λ n. length (kept (view t) n)) _ c.map.result _ c.sum.ensures.ran
    (YieldsList-from_map _ (λ n. length (kept (view t) n))
    (YieldsList-at c.map.ensures.source (YieldsList-from_first (λ x. x) siblings_left _ c.new.ensures)) c.map.ensures.closure
    (λ x r q k. search (rules, tests)))
    ∙ codes-sum t _
