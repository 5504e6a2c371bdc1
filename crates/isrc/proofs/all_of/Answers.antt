-- `isrc::all_of` meets its contract.
use Rattle.std.proofs.Common.{rules, tests, ◌∙◌}
use Rattle.std.proofs.lemmas.Iterator.{YieldsList-from_slice}
use Rattle.std.proofs.lemmas.Iterator.Search.{all_from_yields_List}
use Rattle.isrc.specs.Kinds.{test}
use Rattle.list_laws.proofs.Tests.{listed-all}
use Rattle.isrc.proofs.all_of.Goals as goal

pub returns : goal.returns
returns c = let a = c.args in
    all_from_yields_List (test a.kind) _ _ c.all.result c.all.ensures.ran (YieldsList-from_slice a.text.now (cc))
    (λ x b q k. search (rules, tests))
    ∙ listed-all (test a.kind) a.text.now
