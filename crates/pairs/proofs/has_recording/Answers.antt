-- `pairs::has_recording` meets its contract.
use Rattle.std.proofs.Common.{rules, tests, ◌*◌, ◌+◌, ◌/◌, ◌==◌, length, refl, ◌∙◌}
use Rattle.std.proofs.lemmas.Iterator.{YieldsList-from_range}
use Rattle.std.proofs.lemmas.Iterator.Search.{any_from_yields_List}
use Rattle.model.specs.Table.{at}
use Rattle.model.specs.Slots.{recording_of}
use Rattle.pairs.proofs.Slices.{listed-recording}
use Rattle.pairs.proofs.has_recording.Goals as goal

pub returns : goal.returns
returns c = let a = c.args in
    any_from_yields_List (λ i. recording_of (at a.pairs.now (2 * i + 1)) == a.recording) _ _ c.any.result c.any.ensures.ran
    (YieldsList-from_range a.first (length a.pairs.now / 2) _ refl refl) (λ x b q k. search (rules, tests))
    ∙ listed-recording a.pairs.now a.recording a.first _ refl
