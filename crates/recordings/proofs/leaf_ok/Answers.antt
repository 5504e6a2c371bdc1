-- `recordings::leaf_ok` meets its contract. The loop keeps that the slots from i on answer as all of them do.
use Rattle.std.proofs.Common.{Bool, List, ℕ, ◌∙◌, arith}
use Rattle.model.specs.Slots.{Slot, shown}
use Rattle.model.specs.SoundTest.{all, pair_ok}
use Rattle.slots.specs.Scan.{kept_of}
use Rattle.slots.proofs.Scans.{scan-past, scan-stop, scan-more}
use Rattle.recordings.specs.declared.Leaf.{Leaf}
use Rattle.recordings.proofs.LeafLaws.{slot-passed, ok-none, ok-wrong, ok-next}
use Rattle.recordings.proofs.leaf_ok.Goals as goal
use Rattle.recordings.proofs.leaf_ok.Goals.{else-is_way-via-then-is_way+else-not-ok, else-is_way-via-else-is_way}

-- what slots come to, with this pointer before them
abbrev comes : Leaf → (before : ℕ) → List Slot → Bool
comes x before ss = all pair_ok (kept_of x.node.sibling x.bound (shown before ss))

pub returns-then-p-eq0 : goal.returns-then-p-eq0
returns-then-p-eq0 c = let l =
    c.loop-i in ok-none _ _ _ ∙ scan-stop (comes c.args.x l.before) _ l.i l.invariant (omega arith) c.if-p-eq0.true

pub returns-then-not-ok : goal.returns-then-not-ok
returns-then-not-ok c = let l = c.loop-i in
    scan-more (comes c.args.x l.before) _ l.i l.invariant (omega arith) c.if-p-eq0.false
    (ok-wrong _ _ _ _ _ _ _ c.is_way.ensures c.if-is_way.true _ c.ok.ensures c.if-not-ok.true)

pub loop-i-preserved : goal.loop-i-preserved
loop-i-preserved c = let l = c.loop-i in
    scan-more (comes c.args.x l.before) _ l.i l.invariant (omega arith) c.if-p-eq0.false
    (elim c.else-is_way.branch [
      | else-is_way-via-then-is_way+else-not-ok w ↦ ok-next _ _ _ _ _ _ _ c.is_way.ensures w.if-is_way.true _ w.ok.ensures w.if-not-ok.false
      | else-is_way-via-else-is_way w ↦ slot-passed _ _ _ _ _ _ _ c.is_way.ensures (all pair_ok) w.if-is_way.false
    ])

pub returns : goal.returns
returns c = let l = c.loop-i in ok-none _ _ _ ∙ scan-past (comes c.args.x l.before) _ l.i l.invariant (omega arith)
