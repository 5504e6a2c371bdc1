-- `slots::count` meets its contract.
use Rattle.std.proofs.Common.{rules, tests, refl, sym, ap, ℕ, Option, eqb, ◌+◌, ◌*◌, ◌∙◌}
use Rattle.std.proofs.lemmas.Iterator.{YieldsList-from_range}
use Rattle.std.proofs.lemmas.Iterator.Search.{find_from_yields_List}
use Rattle.std.specs.Prelude.{unwrap_or}
use Rattle.model.specs.Table.{at}
use Rattle.std.proofs.lemmas.Iterator.Adapters.{option_map_id}
use Rattle.slots.proofs.Places.{count-found}
use Rattle.slots.proofs.count.Goals as goal

pub returns-clause-value : goal.returns-clause-value
returns-clause-value c = let a = c.args in
    c.unwrap_or.ensures
    ∙ ap (λ (r : Option ℕ). unwrap_or r 12) (
    sym (option_map_id c.find.result)
    ∙ find_from_yields_List (λ (i : ℕ). eqb (at a.slots (2 * i + 1)) 0) _ _ c.find.result c.find.ensures.ran
    (YieldsList-from_range 0 12 _ refl refl) (λ x b q k. search (rules, tests))
    )
    ∙ count-found a.slots (search rules)
