-- `wear::count_pairs` meets its contract.
use Rattle.std.proofs.Common.{length, ap, arith}
use Rattle.wear.proofs.Running.{left-first, counted-end, left-longer, counted-next}
use Rattle.wear.proofs.count_pairs.Goals as goal

pub loop-w-init : goal.loop-w-init
loop-w-init c = (c.seek-w.ensures.within, omega arith, c.seek-w.ensures.found, omega (arith, ap length (left-first _ _ _ c.seek-w.ensures)))

pub loop-w-smaller : goal.loop-w-smaller
loop-w-smaller c = let l = c.loop-w in
    omega (arith, left-longer _ _ l.w _ _ (omega arith) (l.invariant.2 c.loop-w-test.true) c.seek-end.ensures c.seek-w-in-loop-w.ensures)

pub loop-w-preserved : goal.loop-w-preserved
loop-w-preserved c = let l = c.loop-w in
    let y = l.invariant.2 c.loop-w-test.true in (
      c.seek-w-in-loop-w.ensures.within,
      omega (arith, left-longer _ _ l.w _ _ (omega arith) y c.seek-end.ensures c.seek-w-in-loop-w.ensures),
      c.seek-w-in-loop-w.ensures.found,
      counted-next _ _ l.w _ _ (omega arith) y c.seek-end.ensures c.seek-w-in-loop-w.ensures _ l.invariant.3,
    )

pub returns : goal.returns
returns c = let l = c.loop-w in counted-end _ _ l.w (omega arith) _ l.invariant.3
