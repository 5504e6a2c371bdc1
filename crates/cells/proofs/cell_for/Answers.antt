-- `cells::cell_for` meets its contract.
use Rattle.std.proofs.Common.{refl, ◌∙◌, arith}
use native.Mathlib.Nat.{sub-zero, sub-add-eq}
use Rattle.cells.proofs.Walking.{seek-start, seek-here, seek-free, seek-on, seek-out}
use Rattle.cells.proofs.cell_for.Goals as goal
use Rattle.cells.proofs.cell_for.Goals.{then-held-number-via-then-held-number, then-held-number-via-else-held-number+then-held-eq0}

pub loop-init : goal.loop-init
loop-init c = let e = c.home-at.ensures in (refl, e.upper_bound, rw sub-zero (seek-start _ _ _ _ refl e.value))

pub returns-then-held-number : goal.returns-then-held-number
returns-then-held-number c = record {
  some = (
    elim c.then-held-number.branch [
      | then-held-number-via-then-held-number w ↦ seek-here _ _ _ _ (omega arith) w.if-held-number.true ∙ c.loop.invariant.2
      | then-held-number-via-else-held-number+then-held-eq0 w ↦ seek-free _ _ _ _ (omega arith) w.if-held-eq0.true ∙ c.loop.invariant.2
    ],
    c.loop.invariant.1,
  );
  none = tt;
}

pub loop-preserved : goal.loop-preserved
loop-preserved c = let l = c.loop in
    let e = c.next_cell-at.ensures in (
      refl,
      e.upper_bound,
      rw sub-add-eq (seek-on _ _ _ _ _ (omega arith) c.if-held-number.false c.if-held-eq0.false refl _ e.value ∙ l.invariant.2),
    )

pub returns-clause-none : goal.returns-clause-none
returns-clause-none c = seek-out _ _ _ _ _ (omega arith) refl ∙ c.loop.invariant.2
