-- `reach::standing` meets its contract. The loop's invariant: the descent from here on stands on the level where the whole one does.
use Rattle.std.proofs.Common.{◌≡◌, ◌+◌, ◌-◌, sym, ◌∙◌, arith}
use Rattle.reach.proofs.Descent.{on-here, on-lower, on-top}
use Rattle.reach.proofs.standing.Goals as goal

pub loop-init : goal.loop-init
loop-init c = let a = c.args in
    let e : c.word-top.result + a.level - a.level ≡ c.word-top.result = omega arith in
    rw e (on-top _ _ _ _ _ c.word-top.ensures)

pub loop-preserved : goal.loop-preserved
loop-preserved c = on-lower _ _ _ _ _ _ _ _ (omega arith) (omega arith) c.moved-m.ensures c.down-n.ensures ∙ c.loop.invariant

pub returns : goal.returns
returns c = c.moved.ensures ∙ sym (on-here _ _ _ _ _ (omega arith)) ∙ c.loop.invariant
