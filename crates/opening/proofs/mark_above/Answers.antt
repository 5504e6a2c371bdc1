-- `opening::mark_above` meets its contract.
use Rattle.std.proofs.Common.{◌∙◌}
use Rattle.opening.proofs.Marking.{levels-start, levels-next, levels-end}
use Rattle.opening.proofs.mark_above.Goals as goal

pub loop-init : goal.loop-init
loop-init c = let a = c.args in levels-start a.table.now a.root _ c.word-end.ensures _

pub loop-preserved : goal.loop-preserved
loop-preserved c = let a = c.args in
    levels-next a.table.now a.root _ c.word-end.ensures c.loop.counter c.loop.first _ _ c.mark_level.ensures c.loop-test.true _
    c.word-first.ensures ∙ c.loop.invariant

pub returns : goal.returns
returns c = let a = c.args in levels-end a.table.now a.root _ c.word-end.ensures c.loop.counter c.loop.first _
    c.loop-test.false ∙ c.loop.invariant
