-- `recordings::leaf_once` meets its contract.
use Rattle.std.proofs.Common.{refl, ◌+◌, ◌-◌, ◌∙◌, rules, tests}
use Rattle.std.proofs.lemmas.Iterator.{YieldsList-from_slice}
use Rattle.std.proofs.lemmas.Iterator.Consumers.{YieldsList-from_enumerate}
use Rattle.std.proofs.lemmas.Iterator.Search.{all_from_yields_List}
use Rattle.model.specs.Slots.{view}
use Rattle.model.specs.Table.{nodes}
use Rattle.recordings.specs.Marked.{own_numbers}
use Rattle.recordings.proofs.OnceLaws.{apart, once-places}
use Rattle.recordings.proofs.leaf_once.Goals as goal

pub returns : goal.returns
returns c = let a = c.args in
    let ys = own_numbers (view a.table.now) a.marks.now a.next (nodes a.table.now + 1 - a.next) in
    all_from_yields_List (apart a.pointers.now ys) _ _ c.all.result c.all.ensures.ran
    (YieldsList-from_enumerate (YieldsList-from_slice a.pointers.now (cc)) (cc))
    (λ x b q k. search (rules, tests)) ∙ once-places a.pointers.now ys a.pointers.now 0 refl
