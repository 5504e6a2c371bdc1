-- `numbers::enter` meets its contract.
use Rattle.std.proofs.Common.{refl, ◌∙◌, arith}
use native.Mathlib.Nat.{sub-zero, sub-add-eq}
use Rattle.numbers.proofs.Trying.{no-number, some-number, tried-known, tried-free, tried-more, tried-end}
use Rattle.numbers.proofs.enter.Goals as goal

pub returns-then-number-eq0 : goal.returns-then-number-eq0
returns-then-number-eq0 c = no-number _ _ _ c.if-number-eq0.true

pub loop-init : goal.loop-init
loop-init c = let e = c.home-at.ensures in (refl, e.upper_bound, rw sub-zero (some-number _ _ _ _ e.value c.if-number-eq0.false))

pub returns-then-held-number : goal.returns-then-held-number
returns-then-held-number c = tried-known _ _ _ _ _ (omega arith) c.if-held-number.true ∙ c.loop.invariant.2

pub returns-then-held-eq0 : goal.returns-then-held-eq0
returns-then-held-eq0 c = tried-free _ _ _ _ _ (omega arith) c.if-held-number.false c.if-held-eq0.true ∙ c.loop.invariant.2

pub loop-preserved : goal.loop-preserved
loop-preserved c = let e = c.next_cell-at.ensures in (
  refl,
  e.upper_bound,
  rw sub-add-eq (tried-more _ _ _ _ _ (omega arith) c.if-held-number.false c.if-held-eq0.false _ e.value ∙ c.loop.invariant.2),
)

pub returns : goal.returns
returns c = tried-end _ _ _ _ _ (omega arith) ∙ c.loop.invariant.2
