-- `wear::seek` meets its contract. The loop's invariant: no number passed is one that is wanted.
use Rattle.std.proofs.Common.{arith, rules}
use Rattle.wear.proofs.Seeking.{seek-none, seek-found, seek-next, seek-end}
use Rattle.wear.proofs.seek.Goals as goal

pub loop-w-init : goal.loop-w-init
loop-w-init g c = (search rules, search rules, λ v a b. absurd (omega arith))

pub returns-then-len-w : goal.returns-then-len-w
returns-then-len-w g c = let l = c.loop-w in
    seek-none _ _ _ l.w l.invariant.0 l.invariant.2 _ _ c.unwanted-n.ensures _ l.invariant.1 c.if-len-w.true

pub returns-then-n-w : goal.returns-then-n-w
returns-then-n-w g c = let l = c.loop-w in
    seek-found _ _ _ l.w l.invariant.0 l.invariant.2 _ _ c.unwanted-n.ensures _ (omega arith) (omega arith)

pub loop-w-preserved : goal.loop-w-preserved
loop-w-preserved g c = let l = c.loop-w in
    (omega arith, omega arith, seek-next _ _ _ l.w l.invariant.0 l.invariant.2 _ _ c.unwanted-n.ensures)

pub returns : goal.returns
returns g c = let l = c.loop-w in seek-end _ _ _ l.w l.invariant.0 l.invariant.2 _ l.invariant.1 (omega arith)
