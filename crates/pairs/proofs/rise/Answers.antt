-- `pairs::rise` meets its contract.
use Rattle.std.proofs.Common.{◌-◌, ◌*◌, ◌/◌, ltb, length, refl, ◌∙◌, rules, tests}
use Rattle.std.proofs.lemmas.Iterator.{YieldsList-from_range}
use Rattle.std.proofs.lemmas.Iterator.Search.{all_from_yields_List}
use Rattle.model.specs.Table.{at}
use Rattle.pairs.proofs.Slices.{listed-rising}
use Rattle.pairs.proofs.rise.Goals as goal

pub returns : goal.returns
returns c = let ws = c.args.pairs.now in
    all_from_yields_List (λ i. ltb (at ws (2 * i - 2)) (at ws (2 * i))) _ _ c.all.result c.all.ensures.ran
    (YieldsList-from_range 1 (length ws / 2) _ refl refl) (λ x b q k. search (rules, tests)) ∙ listed-rising ws
