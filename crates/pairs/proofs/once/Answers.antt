-- `pairs::once` meets its contract.
use Rattle.std.proofs.Common.{Err, ap, ◌∙◌}
use Rattle.pairs.proofs.Passes.{pass-start, pass-more, pass-twice, pass-all}
use Rattle.pairs.proofs.once.Goals as goal

pub loop-low-init : goal.loop-low-init
loop-low-init c = pass-start _

pub loop-low-preserved-in-Ok : goal.loop-low-preserved-in-Ok
loop-low-preserved-in-Ok c = pass-more c.loop-low.invariant _ c.enter_pass.ensures c.in-Ok.is

pub returns-in-Err-Known : goal.returns-in-Err-Known
returns-in-Err-Known c = pass-twice c.loop-low.invariant _ c.enter_pass.ensures (c.in-Err-Known.is ∙ ap Err c.in-Err-Known.field-0-is)

pub returns : goal.returns
returns c = pass-all c.loop-low.invariant c.loop-low-test.false
