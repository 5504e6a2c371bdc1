-- `opening::enter_leaf` meets its contract.
use Rattle.std.proofs.Common.{ap, ◌∙◌, arith}
use Rattle.model.specs.Cells.{entered_all}
use Rattle.model.specs.Summary.{cells_of}
use Rattle.list_laws.proofs.Recordings.{recording-below}
use Rattle.slots.proofs.Scans.{scan-past, scan-stop, scan-more}
use Rattle.opening.proofs.Entering.{slots_come, slots-none, slot-passed, slot-taken, leaf-slots}
use Rattle.opening.proofs.enter_leaf.Goals as goal
use Rattle.opening.proofs.enter_leaf.Goals.{then-is_way, else-is_way}

pub returns-then-p-eq0 : goal.returns-then-p-eq0
returns-then-p-eq0 c = let a = c.args in let l = c.loop-i in let x = c.read-x.result in let b = c.word-bound.result in
    slots-none a.collection x.sibling b l.cells l.before
    ∙ scan-stop (slots_come a.collection x.sibling b l.cells l.before) _ l.i l.invariant (omega arith) c.if-p-eq0.true
    ∙ ap (λ ss. entered_all a.cells.now (cells_of a.collection ss))
    (leaf-slots a.table.now a.leaf x b c.read-x.ensures c.word-bound.ensures)

pub join-requires-clause-recording_bound : goal.join-requires-clause-recording_bound
join-requires-clause-recording_bound c = rw c.recording.ensures (recording-below _)

pub loop-i-preserved : goal.loop-i-preserved
loop-i-preserved c = let a = c.args in let l = c.loop-i in let x = c.read-x.result in let b = c.word-bound.result in
    let F = slots_come a.collection x.sibling b l.cells l.before in
    elim c.if-is_way.branch [
      | then-is_way w ↦ scan-more F _ l.i l.invariant (omega arith) c.if-p-eq0.false
          (rw w.cells-is (slot-taken _ _ _ _ _ _ _ _ _ c.is_way.ensures w.if-is_way.true _ _ _ w.recording.ensures
          w.join.ensures w.enter.ensures))
      | else-is_way w ↦ scan-more F _ l.i l.invariant (omega arith) c.if-p-eq0.false
          (rw w.cells-is (slot-passed _ _ _ _ _ _ _ _ _ c.is_way.ensures w.if-is_way.false))
    ]

pub returns : goal.returns
returns c = let a = c.args in let l = c.loop-i in let x = c.read-x.result in let b = c.word-bound.result in
    slots-none a.collection x.sibling b l.cells l.before
    ∙ scan-past (slots_come a.collection x.sibling b l.cells l.before) _ l.i l.invariant (omega arith)
    ∙ ap (λ ss. entered_all a.cells.now (cells_of a.collection ss))
    (leaf-slots a.table.now a.leaf x b c.read-x.ensures c.word-bound.ensures)
