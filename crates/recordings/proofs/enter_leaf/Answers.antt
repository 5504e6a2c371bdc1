-- `recordings::enter_leaf` meets its contract. The loop keeps what entering the slots from i on comes to.
use Rattle.std.proofs.Common.{List, map, ℕ, ◌∙◌, arith}
use Rattle.list_laws.proofs.Tools.{handed-on}
use Rattle.model.specs.Table.{Words}
use Rattle.model.specs.Slots.{Slot, recording, shown}
use Rattle.numbers.specs.Cells.{Outcome, entered_all}
use Rattle.slots.specs.Scan.{kept_of}
use Rattle.slots.proofs.Scans.{scan-past, scan-stop, scan-more}
use Rattle.recordings.specs.declared.Leaf.{Leaf}
use Rattle.recordings.specs.Rounds.{suspect}
use Rattle.recordings.proofs.LeafLaws.{slot-passed, enter-none, enter-goes, enter-ends}
use Rattle.recordings.proofs.enter_leaf.Goals as goal
use Rattle.recordings.proofs.enter_leaf.Goals.{then-is_way+in_ok-enter_number, else-is_way}

-- what slots come to, with this pointer before them, from the cells as they are
abbrev comes : (round : ℕ) (twice : Words) → Leaf → (before : ℕ) → Words → List Slot → Outcome
comes round twice x before cs ss = entered_all (suspect round twice) (map recording (kept_of x.node.sibling x.bound (shown before ss))) cs

pub returns-then-p-eq0 : goal.returns-then-p-eq0
returns-then-p-eq0 c = let a = c.args in let l = c.loop-i in
    enter-none _ _ _ _ _ ∙ scan-stop (comes a.round a.twice.now a.x l.before l.cells) _ l.i l.invariant (omega arith) c.if-p-eq0.true

pub returns-in_err-enter_number : goal.returns-in_err-enter_number
returns-in_err-enter_number c = let a = c.args in let l = c.loop-i in
    rw (handed-on c.from_residual.ensures.1)
    (scan-more (comes a.round a.twice.now a.x l.before l.cells) _ l.i l.invariant (omega arith) c.if-p-eq0.false
    (enter-ends _ _ _ _ _ _ _ c.is_way.ensures c.if-is_way.true _ _ _ _ _ c.recording.ensures c.enter_number.ensures _
    c.in_err-enter_number.was))

pub loop-i-preserved : goal.loop-i-preserved
loop-i-preserved c = let a = c.args in let l = c.loop-i in
    let F = comes a.round a.twice.now a.x l.before l.cells in
    elim c.if-is_way.branch [
      | then-is_way+in_ok-enter_number w ↦ scan-more F _ l.i l.invariant (omega arith) c.if-p-eq0.false
          (rw w.cells-is (enter-goes _ _ _ _ _ _ _ c.is_way.ensures w.if-is_way.true _ _ _ _ _ w.recording.ensures w.enter_number.ensures
          w.in_ok-enter_number.was))
      | else-is_way w ↦ scan-more F _ l.i l.invariant (omega arith) c.if-p-eq0.false
          (rw w.cells-is
          (slot-passed _ _ _ _ _ _ _ c.is_way.ensures
          (λ (ss : List Slot). entered_all (suspect a.round a.twice.now) (map recording ss) l.cells) w.if-is_way.false))
    ]

pub returns : goal.returns
returns c = let a = c.args in let l = c.loop-i in
    enter-none _ _ _ _ _ ∙ scan-past (comes a.round a.twice.now a.x l.before l.cells) _ l.i l.invariant (omega arith)
