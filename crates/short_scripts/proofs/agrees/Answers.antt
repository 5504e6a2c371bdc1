-- `short_scripts::agrees` meets its contract.
use Rattle.std.proofs.Common.{rules, tests, refl, ℕ, [], ◌∷◌, ◌∙◌}
use Rattle.std.proofs.lemmas.Iterator.{YieldsList-from_range}
use Rattle.std.proofs.lemmas.Iterator.Search.{all_from_yields_List}
use Rattle.model.specs.Search.{lookup, search as searched}
use Rattle.model.specs.Scripts.{same_answer, agrees}
use Rattle.list_laws.proofs.Tests.{listed-all}
use Rattle.short_scripts.specs.Held.{pairs}
use Rattle.short_scripts.proofs.agrees.Goals as goal

pub returns : goal.returns
unfolding agrees
returns c =
    let a = c.args in
    all_from_yields_List (λ (k : ℕ). same_answer (searched 1 a.table.now k) (lookup k (pairs a.held))) _ _ c.all.result c.all.ensures.ran
    (YieldsList-from_range 1 4 _ refl refl) (λ x b q k. search (rules, tests))
    ∙ listed-all (λ (k : ℕ). same_answer (searched 1 a.table.now k) (lookup k (pairs a.held))) (1 ∷ 2 ∷ 3 ∷ [])
