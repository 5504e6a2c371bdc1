-- `sound::check_tree` meets its contract.
use mathlib.Core.Path.{sym, ◌∙◌}
use Rattle.model.specs.Table.{root}
use Rattle.recordings.specs.Marked.{MARKS}
use Rattle.sound.specs.Checked.{meant}
use Rattle.sound.proofs.JudgeLaws.{allowed, room-any, wrong-walk, wrong-leftover, wrong-room, wrong-recordings, all-right}
use Rattle.sound.proofs.MarkedLaws.{walk-right}
use Rattle.sound.proofs.check_tree.Goals as goal

pub returns-in_err-seen : goal.returns-in_err-seen
returns-in_err-seen c = rw c.from_residual.ensures (wrong-walk _ c.in_err-seen.ensures.value)

pub returns-in_err-leftover : goal.returns-in_err-leftover
returns-in_err-leftover c =
    rw c.from_residual-in_err-leftover.ensures (wrong-leftover _ _ c.in_ok-seen.ensures.value c.in_err-leftover.ensures)

pub returns-then-not-has_room : goal.returns-then-not-has_room
returns-then-not-has_room c =
    let a = c.args in
    wrong-room _ _ c.in_ok-seen.ensures.value _ c.in_ok-leftover.ensures
    (sym (c.has_room.ensures ∙ room-any a.table.now (root a.table.now) a.root (meant c.in_ok-leftover.leftover)) ∙ c.if-not-has_room.true)

pub returns-then-not-ok : goal.returns-then-not-ok
returns-then-not-ok c =
    let a = c.args in
    let w = c.in_ok-seen.ensures in
    let l = c.in_ok-leftover.ensures in
    let right = walk-right a.table.now a.root MARKS _ _ _ c.requires w.value (w.adds tt) (allowed _ _ w.value _ l)
    c.uncut-marks.ensures _ c.ok.ensures in
    wrong-recordings _ _ w.value _ l (sym right ∙ c.if-not-ok.true)

pub returns : goal.returns
returns c =
    let a = c.args in
    let w = c.in_ok-seen.ensures in
    let l = c.in_ok-leftover.ensures in
    let right = walk-right a.table.now a.root MARKS _ _ _ c.requires w.value (w.adds tt) (allowed _ _ w.value _ l)
    c.uncut-marks.ensures _ c.ok.ensures in
    all-right _ _ w.value _ l
    (sym (c.has_room.ensures ∙ room-any a.table.now (root a.table.now) a.root (meant c.in_ok-leftover.leftover))
    ∙ c.if-not-has_room.false) (sym right ∙ c.if-not-ok.false)
