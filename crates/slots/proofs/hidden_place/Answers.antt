-- `slots::hidden_place` meets its contract. The loop keeps that i and the place among the slots from i on make the whole.
use Rattle.std.proofs.Common.{◌≡◌, arith, sym, List, ◌+◌, ◌∙◌}
use Rattle.model.specs.Slots.{Slot}
use Rattle.model.specs.Shifts.{hidden_place}
use Rattle.slots.proofs.Scans.{scan-past, scan-stop, scan-more}
use Rattle.slots.proofs.Places.{hidden-none, hidden-here, hidden-later}
use Rattle.slots.proofs.hidden_place.Goals as goal
use Rattle.slots.proofs.hidden_place.Goals.{then-p-eq0-via-then-p-eq0, then-p-eq0-via-else-p-eq0+then-p-before}

pub returns-then-p-eq0-clause-value : goal.returns-then-p-eq0-clause-value
returns-then-p-eq0-clause-value c = let l = c.loop-i in
    elim c.then-p-eq0.branch [
      | then-p-eq0-via-then-p-eq0 w ↦
          sym (hidden-none _ l.before)
          ∙ scan-stop (λ (ss : List Slot). l.i + hidden_place l.before ss) _ l.i l.invariant (omega arith) w.if-p-eq0.true
      | then-p-eq0-via-else-p-eq0+then-p-before w ↦
          scan-more (λ (ss : List Slot). l.i + hidden_place l.before ss) _ l.i l.invariant (omega arith) w.if-p-eq0.false
          (hidden-here _ _ _ _ _ w.if-p-before.true)
    ]

pub loop-i-preserved : goal.loop-i-preserved
loop-i-preserved c = let l = c.loop-i in
    scan-more (λ (ss : List Slot). l.i + hidden_place l.before ss) _ l.i l.invariant (omega arith) c.if-p-eq0.false
    (hidden-later _ _ _ _ _ c.if-p-before.false)

pub returns-clause-value : goal.returns-clause-value
returns-clause-value c = let l = c.loop-i in
    let i : 12 ≡ l.i = omega arith in
    i ∙ sym (hidden-none _ l.before) ∙ scan-past (λ (ss : List Slot). l.i + hidden_place l.before ss) _ l.i l.invariant (omega arith)
