-- `short_scripts::none_above` meets its contract.
use Rattle.std.proofs.Common.{leb, ◌∙◌, rules, tests}
use Rattle.std.proofs.lemmas.Iterator.{YieldsList-from_slice}
use Rattle.std.proofs.lemmas.Iterator.Search.{all_from_yields_List}
use Rattle.list_laws.proofs.Tests.{listed-all}
use Rattle.short_scripts.proofs.none_above.Goals as goal

pub returns : goal.returns
returns c = let a = c.args in
    all_from_yields_List (λ w. leb w a.most) _ _ c.all.result c.all.ensures.ran (YieldsList-from_slice a.words.now (cc))
    (λ x b q k. search (rules, tests))
    ∙ listed-all (λ w. leb w a.most) a.words.now
