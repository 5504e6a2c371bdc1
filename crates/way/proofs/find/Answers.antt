-- `way::find` meets its contract. The loop keeps that the nodes so far and the way from node n on are the path (`Walking`).
use Rattle.std.proofs.Common.{◌≡◌, ◌-◌, arith}
use Rattle.way.proofs.Walking.{lost-high, walking-start, lost-step, walking-next, walked-end}
use Rattle.way.proofs.find.Goals as goal

pub returns-then-top-gt15 : goal.returns-then-top-gt15
returns-then-top-gt15 c = lost-high _ _ _ _ _ c.word-top.ensures c.if-top-gt15.true

pub loop-i-init : goal.loop-i-init
loop-i-init c = let whole : c.word-top.result - 0 ≡ c.word-top.result =
    omega arith in rw whole (walking-start _ _ _ _ _ c.word-top.ensures c.if-top-gt15.false)

pub returns-in_err-s : goal.returns-in_err-s
returns-in_err-s c = rw c.from_residual.ensures (lost-step _ _ _ _ _ _ _ _ _ _ c.loop-i.invariant _ c.take_step.ensures c.in_err-s.was)

pub loop-i-preserved : goal.loop-i-preserved
loop-i-preserved c =
    rw c.run_after-run.ensures
    (walking-next _ _ _ _ _ _ _ _ _ _ c.loop-i.invariant _ c.take_step.ensures c.in_ok-s.s c.in_ok-s.was
    (λ z. omega arith) _ (omega arith))

pub returns-in_ok-s : goal.returns-in_ok-s
returns-in_ok-s c = rw c.run_after-run.ensures
    (walked-end _ _ _ _ _ _ _ _ _ _ c.loop-i.invariant _ c.take_step.ensures c.in_ok-s.s c.in_ok-s.was (omega arith))
