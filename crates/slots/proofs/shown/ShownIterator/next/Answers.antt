-- `next` of `slots::Shown` meets its contract. What is left stays the same until a slot is given.
use Rattle.std.proofs.Common.{sym, ap, length, ◌∙◌, arith}
use Rattle.slots.proofs.Shows.{left-shown, left-hidden, left-stop, left-past}
use Rattle.slots.proofs.shown.ShownIterator.next.Goals as goal

pub returns-then-pointer-eq0-clause-steps : goal.returns-then-pointer-eq0-clause-steps
returns-then-pointer-eq0-clause-steps c =
    let e = left-stop _ _ c.in-len2-up.len_at_least c.if-pointer-eq0.true in (sym c.loop-self.invariant ∙ e, e)

pub returns-then-pointer-before-clause-steps : goal.returns-then-pointer-before-clause-steps
returns-then-pointer-before-clause-steps c =
    sym c.loop-self.invariant ∙ left-shown _ _ c.in-len2-up.len_at_least c.if-pointer-eq0.false c.if-pointer-before.true

pub returns-then-pointer-before-clause-goes : goal.returns-then-pointer-before-clause-goes
returns-then-pointer-before-clause-goes c =
    let e = sym c.loop-self.invariant ∙ left-shown _ _ c.in-len2-up.len_at_least c.if-pointer-eq0.false c.if-pointer-before.true in
    record { on = λ f. (tt, tt, omega (arith, ap length e)); keeps = tt; rests = λ f. tt }

pub loop-self-preserved : goal.loop-self-preserved
loop-self-preserved c =
    sym (left-hidden _ _ c.in-len2-up.len_at_least c.if-pointer-eq0.false c.if-pointer-before.false) ∙ c.loop-self.invariant

pub returns-clause-steps : goal.returns-clause-steps
returns-clause-steps c = let e = left-past _ _ c.in_default.len_below in (sym c.loop-self.invariant ∙ e, e)
