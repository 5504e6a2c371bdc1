-- `slots::gather` meets its contract. The loop keeps that the ways so far and the kept slots from i on make the whole.
use Rattle.std.proofs.Common.{arith, rules, ap, sym, List, ℕ, ◌++◌, ◌∙◌, length-set}
use Rattle.model.specs.Slots.{Slot, shown}
use Rattle.slots.specs.Scan.{kept_of}
use Rattle.slots.specs.Gathered.{span}
use Rattle.slots.proofs.Scans.{scan-past, scan-stop, scan-more}
use Rattle.slots.proofs.Kept.{first-way, ways-none, way-taken, kept-taken, kept-passed}
use Rattle.slots.proofs.gather.Goals as goal
use Rattle.slots.proofs.gather.Goals.{then-is_way, else-is_way}

-- what the ways so far and slots come to
abbrev comes : (sibling bound before : ℕ) → List Slot → List Slot → List Slot
comes sibling bound before ways ss = ways ++ kept_of sibling bound (shown before ss)

pub loop-i-init : goal.loop-i-init
loop-i-init c = (omega arith, search rules, search rules, first-way _ _ _)

pub returns-then-pointer-eq0 : goal.returns-then-pointer-eq0
returns-then-pointer-eq0 c = let a = c.args in let l = c.loop-i in
    sym (ways-none _ _ l.before _)
    ∙ scan-stop (comes a.x.sibling a.bound l.before (span l.keys l.pointers 0 l.count)) _ l.i l.invariant.3
    (omega arith) c.if-pointer-eq0.true

pub loop-i-preserved : goal.loop-i-preserved
loop-i-preserved c = let a = c.args in let l = c.loop-i in
    elim c.if-is_way.branch [
      | then-is_way w ↦ (
        omega arith,
        rw (w.keys-is, length-set) l.invariant.1,
        rw (w.pointers-is, length-set) l.invariant.2,
        scan-more (comes a.x.sibling a.bound l.before (span l.keys l.pointers 0 l.count)) _ l.i l.invariant.3
            (omega arith) c.if-pointer-eq0.false
            (rw (w.keys-is, w.pointers-is, w.count-is)
            (ap (λ (ss : List Slot). span l.keys l.pointers 0 l.count ++ ss) (kept-taken _ _ _ _ _ _ c.is_way.ensures w.if-is_way.true)
            ∙ way-taken _ _ _ _ _ _ (omega arith) (omega arith))),
      )
      | else-is_way w ↦ (
        omega arith,
        rw w.keys-is l.invariant.1,
        rw w.pointers-is l.invariant.2,
        scan-more (comes a.x.sibling a.bound l.before (span l.keys l.pointers 0 l.count)) _ l.i l.invariant.3
            (omega arith) c.if-pointer-eq0.false
            (rw (w.keys-is, w.pointers-is, w.count-is)
            (ap (λ (ss : List Slot). span l.keys l.pointers 0 l.count ++ ss) (kept-passed _ _ _ _ _ _ c.is_way.ensures w.if-is_way.false))),
      )
    ]

pub returns : goal.returns
returns c = let a = c.args in let l = c.loop-i in
    sym (ways-none _ _ l.before _)
    ∙ scan-past (comes a.x.sibling a.bound l.before (span l.keys l.pointers 0 l.count)) _ l.i l.invariant.3 (omega arith)
