-- `pairs::compared_once` meets its contract.
use Rattle.std.proofs.Common.{rules, tests, ◌*◌, ◌+◌, ◌/◌, not, length, drop, refl, ◌∙◌}
use Rattle.std.proofs.lemmas.Iterator.{YieldsList-from_range}
use Rattle.std.proofs.lemmas.Iterator.Search.{all_from_yields_List}
use Rattle.model.specs.Table.{at}
use Rattle.model.specs.Slots.{slots_of, recording_of}
use Rattle.model.specs.Refusals.{has_recording}
use Rattle.pairs.proofs.Slices.{listed-once}
use Rattle.pairs.proofs.compared_once.Goals as goal

pub returns : goal.returns
returns c = let ws = c.args.pairs.now in
    all_from_yields_List (λ i. not (has_recording (recording_of (at ws (2 * i + 1))) (drop (i + 1) (slots_of ws)))) _ _
    c.all.result c.all.ensures.ran
    (YieldsList-from_range 0 (length ws / 2) _ refl refl) (λ x b q k. search (rules, tests)) ∙ listed-once ws 0 _ refl
