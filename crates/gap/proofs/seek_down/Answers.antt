-- `gap::seek_down` meets its contract.
use Rattle.std.proofs.Common.{◌≡◌, ◌+◌, ◌-◌, refl, inl, arith, length-set}
use Rattle.gap.proofs.Around.{moved-down, moved-under}
use Rattle.gap.proofs.seek_down.Goals as goal

pub returns-then-k-key : goal.returns-then-k-key
returns-then-k-key c = let l = c.loop-i.invariant in
    let e : c.loop-i.i - 1 + 1 ≡ c.loop-i.i = omega arith in
    rw e (record { kept_after = (l.0.same, l.1); under = moved-under _ _ _ _ _ _ l.0 _ (c.loop-i.i - 1) (omega arith) c.if-k-key.true })

pub bounds-pairs-gap-in-loop-i : goal.bounds-pairs-gap-in-loop-i
bounds-pairs-gap-in-loop-i c = let l = c.loop-i.invariant.0 in let t =
    c.loop-i-test.true in simp length-set (omega (arith, l.below, l.long, l.room, t))

pub loop-i-preserved : goal.loop-i-preserved
loop-i-preserved c = let l = c.loop-i.invariant in (moved-down _ _ _ _ _ _ l.0 (c.loop-i.i - 1) (omega arith), omega arith)

pub returns : goal.returns
returns c = let l = c.loop-i.invariant in
    let e : c.loop-i.i ≡ 0 = omega arith in
    record { kept_after = (rw e at l.0.same, omega arith); under = inl refl }
