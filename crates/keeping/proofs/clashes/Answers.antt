-- `keeping::clashes` meets its contract.
use Rattle.std.proofs.Common.{rules, tests, ◌∙◌}
use Rattle.std.proofs.lemmas.Iterator.Search.{any_from_yields_List}
use Rattle.model.specs.Slots.{recording_of}
use Rattle.keeping.proofs.Downwards.{rev-yields}
use Rattle.keeping.proofs.Marks.{clashing, clash-any}
use Rattle.keeping.proofs.clashes.Goals as goal

pub returns : goal.returns
returns c = let a = c.args in
    let r = recording_of a.pair.pointer in
    any_from_yields_List (clashing a.entered.table.now a.entered.order.now a.marks.now a.pair.key r) _ _ c.any.result c.any.ensures.ran
    (rev-yields a.end c.rev.ensures.source) (λ x b q k. search (rules, tests))
    ∙ clash-any a.entered.table.now a.entered.order.now a.marks.now a.pair.key r a.end
