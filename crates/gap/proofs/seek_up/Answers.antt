-- `gap::seek_up` meets its contract.
use Rattle.std.proofs.Common.{◌≡◌, arith, length-set}
use Rattle.gap.proofs.Around.{moved-up, moved-over, moved-next, moved-all}
use Rattle.gap.proofs.seek_up.Goals as goal

pub returns-then-key-k : goal.returns-then-key-k
returns-then-key-k c = let l =
    c.loop-i.invariant in record
    { kept_after = (l.0.same, l.0.below); under = (l.1, moved-over _ _ _ _ _ _ l.0 _ c.loop-i-test.true c.if-key-k.true) }

pub bounds-pairs-i-in-loop-i : goal.bounds-pairs-i-in-loop-i
bounds-pairs-i-in-loop-i c = let l = c.loop-i.invariant.0 in let t =
    c.loop-i-test.true in simp length-set (omega (arith, l.long, l.room, t))

pub loop-i-preserved : goal.loop-i-preserved
loop-i-preserved c = let l = c.loop-i.invariant in
    let t = c.loop-i-test.true in
    let f = c.if-key-k.false in
    (moved-up _ _ _ _ _ _ l.0 t, λ u. moved-next _ _ _ _ _ _ l.0 _ t (omega (arith, f)))

pub returns : goal.returns
returns c = let l = c.loop-i.invariant in
    let e : c.loop-i.i ≡ c.args.kept = omega (arith, c.loop-i-test.false, l.0.below) in
    record {
      kept_after = (rw e at l.0.same, omega arith);
      under = (λ u. rw e at (l.1 u), rw e at (moved-all _ _ _ _ _ _ l.0 c.args.key (omega arith)));
    }
