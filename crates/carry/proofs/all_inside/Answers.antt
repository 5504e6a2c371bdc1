-- `carry::all_inside` meets its contract.
use Rattle.std.proofs.Common.{rules, tests, ◌∙◌}
use Rattle.std.proofs.lemmas.Iterator.Search.{all_from_yields_List}
use Rattle.model.specs.Orders.{decode, inside}
use Rattle.carry.proofs.Turns.{pairs-give, listed-inside}
use Rattle.carry.proofs.all_inside.Goals as goal

pub returns : goal.returns
returns c = let a = c.args in
    all_from_yields_List (inside a.len) _ _ c.all.result c.all.ensures.ran
    (pairs-give a.list.now c.chunks_exact.ensures.rest c.chunks_exact.ensures.size) (λ x b q k. search (rules, tests))
    ∙ listed-inside a.len (decode a.list.now)
