-- `tour::look` meets its contract.
use Rattle.std.proofs.Common.{sym, ◌∙◌, arith}
use Rattle.tour.proofs.Looks.{sight-leaf, sight-left, sight-sibling, sight-end, sight-unmet, sight-met}
use Rattle.tour.proofs.look.Goals as goal

pub returns-then-node-eq0 : goal.returns-then-node-eq0
returns-then-node-eq0 c = sight-leaf _ _ c.read-node.result c.read-node.ensures _ c.if-w-eq0.true c.if-node-eq0.true

pub returns-then-w-eq0 : goal.returns-then-w-eq0
returns-then-w-eq0 c = sight-left _ _ c.read-node.result c.read-node.ensures _ _ c.if-w-eq0.true c.if-node-eq0.false (omega arith)

pub returns-then-w-eq13 : goal.returns-then-w-eq13
returns-then-w-eq13 c = sight-sibling _ _ c.read-node.result c.read-node.ensures _ c.if-w-eq13.true

pub returns-then-pointer-eq0 : goal.returns-then-pointer-eq0
returns-then-pointer-eq0 c = sight-end _ _ c.read-node.result c.read-node.ensures _ c.if-w-eq0.false
    c.if-w-eq13.false c.requires c.if-pointer-eq0.true

pub returns-then-not-is_met : goal.returns-then-not-is_met
returns-then-not-is_met c = sight-unmet _ _ c.read-node.result c.read-node.ensures _
    c.if-w-eq0.false c.if-w-eq13.false c.requires
    c.pointer_before-before.result c.pointer_before-before.ensures.value c.if-pointer-eq0.false
    (sym c.is_met.ensures ∙ c.if-not-is_met.true)

pub returns : goal.returns
returns c = sight-met _ _ c.read-node.result
    c.read-node.ensures _ c.if-w-eq0.false
    c.if-w-eq13.false c.requires
    c.pointer_before-before.result c.saturating_sub.result c.pointer_before-before.ensures.value (omega (arith, c.saturating_sub.ensures))
    c.if-pointer-eq0.false (sym c.is_met.ensures ∙ c.if-not-is_met.false)
