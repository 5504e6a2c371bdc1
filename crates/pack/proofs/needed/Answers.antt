-- `pack::needed` meets its contract.
use Rattle.std.proofs.Common.{◌≡◌, ◌+◌, ◌-◌, sym, ◌∙◌, arith}
use Rattle.pack.proofs.Filling.{row-above, needed-start, needed-step, needed-out, needed-one}
use Rattle.pack.proofs.needed.Goals as goal

pub loop-init : goal.loop-init
loop-init c = (omega arith, omega arith, needed-start _ _ c.leaf_count-row.ensures)

pub returns-then-row-le1 : goal.returns-then-row-le1
returns-then-row-le1 c = let l = c.loop in sym (needed-one l.row (15 - l.counter) l.total c.if-row-le1.true) ∙ l.invariant.2

pub loop-preserved : goal.loop-preserved
loop-preserved c = let l = c.loop in
    let e : 15 - l.counter - 1 ≡ 15 - (l.counter + 1) = omega arith in
    let f = row-above _ _ c.div_ceil-row.ensures in (
      omega (arith, f),
      omega (arith, f),
      rw (f, ← e) (sym (needed-step l.row (15 - l.counter) l.total c.if-row-le1.false (λ z. omega arith)) ∙ l.invariant.2),
    )

pub returns : goal.returns
returns c = let l = c.loop in sym (needed-out l.row (15 - l.counter) l.total (omega arith)) ∙ l.invariant.2
