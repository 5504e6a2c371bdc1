-- `clear::is_off` meets its contract.
use Rattle.std.proofs.Common.{◌∙◌, arith}
use native.Mathlib.Nat.{sub-add-eq}
use Rattle.clear.proofs.Looking.{off-start, off-here, off-free, off-more, off-end}
use Rattle.clear.proofs.is_off.Goals as goal

pub loop-init : goal.loop-init
loop-init c = let e = c.home-at.ensures in (e.upper_bound, off-start _ _ _ e.value)

pub returns-then-held-number : goal.returns-then-held-number
returns-then-held-number c = off-here _ _ _ _ (omega arith) c.if-held-number.true ∙ c.loop.invariant.1

pub returns-then-held-eq0 : goal.returns-then-held-eq0
returns-then-held-eq0 c = off-free _ _ _ _ (omega arith) c.if-held-number.false c.if-held-eq0.true ∙ c.loop.invariant.1

pub loop-preserved : goal.loop-preserved
loop-preserved c = let e = c.next_cell-at.ensures in (
  e.upper_bound,
  rw sub-add-eq
      (off-more _ _ _ _ (omega arith) c.if-held-number.false c.if-held-eq0.false _ e.value ∙ c.loop.invariant.1),
)

pub returns : goal.returns
returns c = off-end _ _ _ _ (omega arith) ∙ c.loop.invariant.1
