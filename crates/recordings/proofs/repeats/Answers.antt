-- `recordings::repeats` meets its contract.
use Rattle.std.proofs.Common.{rules, tests, ◌==◌, ◌∙◌}
use Rattle.std.proofs.lemmas.Iterator.{YieldsList-from_slice}
use Rattle.std.proofs.lemmas.Iterator.Search.{any_from_yields_List}
use Rattle.model.specs.Slots.{recording_of}
use Rattle.recordings.proofs.OnceLaws.{any-elem}
use Rattle.recordings.proofs.repeats.Goals as goal

pub returns : goal.returns
returns c = let a = c.args in
    any_from_yields_List (λ p. recording_of p == a.recording) _ _ c.any.result c.any.ensures.ran (YieldsList-from_slice a.pointers.now (cc))
    (λ x b q k. search (rules, tests)) ∙ any-elem a.recording a.pointers.now
