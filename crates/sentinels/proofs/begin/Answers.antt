-- `sentinels::begin` meets its contract. The loop keeps that the slots from i on tell what comes before slot first as all of them do.
use native.Mathlib.Omega.{arith}
use Rattle.sentinels.proofs.Reading.{begun-stop, begun-on, begun-done}
use Rattle.sentinels.proofs.begin.Goals as goal

pub returns-then-p-eq0 : goal.returns-then-p-eq0
returns-then-p-eq0 c = begun-stop c.args.node.now _ _ _ _ c.told-node c.requires (omega arith) c.loop-i.invariant c.if-p-eq0.true

pub loop-i-preserved : goal.loop-i-preserved
loop-i-preserved c = begun-on c.args.node.now _ _ _ _ c.told-node c.requires (omega arith) c.loop-i.invariant c.if-p-eq0.false

pub returns : goal.returns
returns c = begun-done _ _ _ _ _ (omega arith) c.loop-i.invariant
