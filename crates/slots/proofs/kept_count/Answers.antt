-- `slots::kept_count` meets its contract. The loop keeps that the count and the kept slots from i on make the whole.
use Rattle.std.proofs.Common.{arith, ap, sym, List, ℕ, ◌+◌, ◌∙◌, length}
use Rattle.model.specs.Slots.{Slot, shown}
use Rattle.slots.specs.Scan.{kept_of}
use Rattle.slots.proofs.Scans.{scan-past, scan-stop, scan-more}
use Rattle.slots.proofs.Kept.{count-none, kept-taken, kept-passed}
use Rattle.slots.proofs.kept_count.Goals as goal
use Rattle.slots.proofs.kept_count.Goals.{then-is_way, else-is_way}

-- what the count so far and slots come to
abbrev comes : (sibling bound before count : ℕ) → List Slot → ℕ
comes sibling bound before count ss = count + length (kept_of sibling bound (shown before ss))

pub returns-then-p-eq0 : goal.returns-then-p-eq0
returns-then-p-eq0 c = let a = c.args in let l = c.loop-i in
    sym (count-none _ _ _ l.before)
    ∙ scan-stop (comes a.sibling a.bound l.before l.count) _ l.i l.invariant.1 (omega arith) c.if-p-eq0.true

pub loop-i-preserved : goal.loop-i-preserved
loop-i-preserved c = let a = c.args in let l = c.loop-i in
    elim c.if-is_way.branch [
      | then-is_way w ↦ (
        omega arith,
        scan-more (comes a.sibling a.bound l.before l.count) _ l.i l.invariant.1 (omega arith) c.if-p-eq0.false
            (ap (λ (ss : List Slot). l.count + length ss) (kept-taken _ _ _ _ _ _ c.is_way.ensures w.if-is_way.true) ∙ omega arith),
      )
      | else-is_way w ↦ (
        omega arith,
        scan-more (comes a.sibling a.bound l.before l.count) _ l.i l.invariant.1 (omega arith) c.if-p-eq0.false
            (ap (λ (ss : List Slot). l.count + length ss) (kept-passed _ _ _ _ _ _ c.is_way.ensures w.if-is_way.false) ∙ omega arith),
      )
    ]

pub returns : goal.returns
returns c = let a = c.args in let l = c.loop-i in
    sym (count-none _ _ _ l.before)
    ∙ scan-past (comes a.sibling a.bound l.before l.count) _ l.i l.invariant.1 (omega arith)
