-- `pack::child_slots` meets its contract.
use mathlib.Core.Path.{sym, ◌∙◌}
use Rattle.pack.proofs.Filling.{child-start, child-step, child-full}
use Rattle.pack.proofs.child_slots.Goals as goal

pub loop-i-init : goal.loop-i-init
loop-i-init c = let a = c.args in child-start a.nodes.now a.first a.count c.requires.0

pub loop-i-preserved : goal.loop-i-preserved
loop-i-preserved c = let l = c.loop-i in let a =
    c.args in sym (child-step a.nodes.now a.first a.count l.slots l.i c.loop-i-test.true) ∙ l.invariant

pub returns : goal.returns
returns c = let l = c.loop-i in let a = c.args in sym (child-full a.nodes.now a.first a.count l.slots l.i c.loop-i-test.false) ∙ l.invariant
