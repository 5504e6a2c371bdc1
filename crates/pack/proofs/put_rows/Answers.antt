-- `pack::put_rows` meets its contract.
use native.Mathlib.Omega.{arith}
use Rattle.pack.proofs.Raising.{rising-fits, rising-step, rising-one, rising-top}
use Rattle.pack.proofs.put_rows.Goals as goal

pub returns-then-row-le1 : goal.returns-then-row-le1
returns-then-row-le1 c = let both =
    rising-one _ _ _ _ _ _ _ c.loop-level.invariant c.if-row-le1.true in record { nodes_after = both.0; value = both.1 }

pub put_row-above-requires : goal.put_row-above-requires
put_row-above-requires c = let r = c.loop-level.invariant in
    let t = c.loop-level-test.true in
    let i = c.if-row-le1.false in
    (rising-fits _ _ _ _ _ _ _ r t (omega (arith, i)), omega (arith, r.few, r.bound, r.low-nodes, r.high))

pub loop-level-preserved : goal.loop-level-preserved
loop-level-preserved c = let r = c.loop-level.invariant in
    let t = c.loop-level-test.true in
    let i = c.if-row-le1.false in
    rising-step _ _ _ _ _ _ _ r _ _ t (omega (arith, i)) c.put_row-above.ensures.nodes_after c.put_row-above.ensures.value

pub returns : goal.returns
returns c = let both =
    rising-top _ _ _ _ _ _ _ c.loop-level.invariant c.loop-level-test.false in record { nodes_after = both.0; value = both.1 }
