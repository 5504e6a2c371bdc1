-- `pairs::in_range` meets its contract.
use Rattle.std.proofs.Common.{rules, tests, ◌∙◌}
use Rattle.std.proofs.lemmas.Iterator.Search.{all_from_yields_List}
use Rattle.list_laws.proofs.Tests.{listed-all}
use Rattle.model.specs.Slots.{slots_of}
use Rattle.model.specs.SoundTest.{pair_ok}
use Rattle.pairs.proofs.Slices.{pairs-come}
use Rattle.pairs.proofs.in_range.Goals as goal

pub returns : goal.returns
returns c = let ws = c.args.pairs.now in let z = c.chunks_exact.ensures in
    all_from_yields_List pair_ok _ _ c.all.result c.all.ensures.ran (pairs-come ws _ z.size z.rest) (λ x b q k. search (rules, tests))
    ∙ listed-all pair_ok (slots_of ws)
