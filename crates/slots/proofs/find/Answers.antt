-- `slots::find` meets its contract.
use Rattle.std.proofs.Common.{◌≡◌, ℕ, rules, tests}
use Rattle.std.proofs.Math.Dec.{eqb}
use Rattle.std.proofs.lemmas.Iterator.Consumers.{YieldsList-from_first}
use Rattle.std.proofs.lemmas.Iterator.Search.{find_from_yields_List}
use Rattle.std.specs.Option.{option_map}
use Rattle.model.specs.Slots.{Slot}
use Rattle.slots.specs.Shown.{slot_of, shown_left}
use Rattle.slots.proofs.Shows.{found-pair}
use Rattle.slots.proofs.find.Goals as goal

pub returns : goal.returns
returns c =
    let second : c.map.result ≡ option_map (λ (x : ℕ × ℕ). x.1) c.find.result = search rules in
    found-pair c.args.key _ c.find.result c.map.result second
    (find_from_yields_List (λ (s : Slot). eqb s.key c.args.key) c.find.new.self _ c.find.result c.find.ensures.ran
    (YieldsList-from_first slot_of shown_left _ c.new.ensures.value) (λ x b q k. search (rules, tests)))
