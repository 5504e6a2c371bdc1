-- `keeping::mark_slot` meets its contract.
use Rattle.std.proofs.Common.{◌+◌, ◌*◌, sym, ◌∙◌, subst, arith}
use Rattle.keeping.proofs.Marks.{marked-unmet, marked-left, marked-kept}
use Rattle.model.specs.Table.{Words}
use Rattle.gather.specs.Held.{met}
use Rattle.keeping.specs.Marks.{Marked}
use Rattle.keeping.proofs.mark_slot.Goals as goal

pub returns-then-not-is_met : goal.returns-then-not-is_met
returns-then-not-is_met c = let a = c.args in
    marked-unmet a.entered.table.now a.entered.order.now a.marks.now (12 * a.j + a.i) a.pair.key a.pair.pointer a.sibling a.before a.i
    (sym c.is_met.ensures ∙ c.if-not-is_met.true)

pub returns-then-not-keeps : goal.returns-then-not-keeps
returns-then-not-keeps c = let a = c.args in
    let k = c.keeps in
    marked-left a.entered.table.now a.entered.order.now a.marks.now (12 * a.j + a.i) a.pair.key a.pair.pointer a.sibling a.before a.i
    (sym c.is_met.ensures ∙ c.if-not-is_met.false)
    (sym k.ensures ∙ c.if-not-keeps.true)

pub returns : goal.returns
returns c = let a = c.args in
    let k = c.keeps in
    subst (λ (ms : Words). Marked a.entered.table.now a.entered.order.now a.marks.now ms (12 * a.j + a.i) a.pair.key a.pair.pointer
    (met a.entered.table.now a.sibling a.before a.i a.pair.key a.pair.pointer) 1)
    (sym c.put.ensures)
    (marked-kept a.entered.table.now a.entered.order.now a.marks.now (12 * a.j + a.i) a.pair.key a.pair.pointer a.sibling a.before a.i
    (sym c.is_met.ensures ∙ c.if-not-is_met.false)
    (sym k.ensures ∙ c.if-not-keeps.false) (omega (arith, c.requires.0, c.requires.1)))
