-- `cells::close_up` meets its contract.
use Rattle.std.proofs.Common.{sym, refl, ◌∙◌, arith}
use native.Mathlib.Nat.{sub-zero, sub-add-eq}
use Rattle.cells.proofs.Walking.{gap-ends, gap-out, gap-on, gap-from}
use Rattle.cells.proofs.close_up.Goals as goal

pub loop-init : goal.loop-init
loop-init c = let e = c.next_cell-at.ensures in (refl, c.requires, e.upper_bound, rw sub-zero (gap-from _ _ _ _ _ e.value))

pub returns-then-cells-at-eq0 : goal.returns-then-cells-at-eq0
returns-then-cells-at-eq0 c = gap-ends _ _ _ _ (omega arith) c.if-cells-at-eq0.true ∙ c.loop.invariant.3

pub loop-preserved : goal.loop-preserved
loop-preserved c = let l = c.loop in
    let m = c.move_in-gap.ensures in
    let e = c.next_cell-at-in-loop.ensures in (
      refl,
      omega (arith, m.upper_bound),
      e.upper_bound,
      rw sub-add-eq (gap-on _ _ _ _ _ _ _ _ _ (omega arith) m.by_index e.value (sym l.auto.cells) ∙ l.invariant.3),
    )

pub returns : goal.returns
returns c = gap-out _ _ _ _ (omega arith) ∙ c.loop.invariant.3
