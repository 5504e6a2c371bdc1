-- `pack::put_row` meets its contract.
use native.Mathlib.Omega.{arith}
use Rattle.pack.proofs.Rows.{raised-step, raised-end}
use Rattle.pack.proofs.Filling.{row-above}
use Rattle.pack.proofs.put_row.Goals as goal

pub loop-g-preserved : goal.loop-g-preserved
loop-g-preserved c = let t = c.loop-g-test.true in
    let l = c.loop-g in
    let e = row-above _ _ c.div_ceil-row.ensures in
    raised-step _ _ _ _ c.requires.0 l.nodes _ l.g c.min.result (omega (arith, t, e)) (omega (arith, c.min.ensures)) l.invariant
    (rw e at c.put_inner.ensures)

pub returns : goal.returns
returns c = let e = row-above _ _ c.div_ceil-row.ensures in
    let t = c.loop-g-test.false in
    record { nodes_after = raised-end _ _ _ _ c.requires.0 _ _ (omega (arith, t, e)) c.loop-g.invariant; value = e }
