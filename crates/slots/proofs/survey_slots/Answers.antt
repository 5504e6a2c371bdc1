-- `slots::survey_slots` meets its contract. The loop keeps what the survey of the slots from i on, from the present state, comes to.
use Rattle.std.proofs.Common.{arith, sym, List, ◌∙◌}
use Rattle.model.specs.Slots.{Slot}
use Rattle.slots.specs.Surveyed.{surveyed}
use Rattle.slots.proofs.Scans.{scan-past, scan-stop, scan-more}
use Rattle.slots.proofs.Surveys.{survey-begun, survey-none, survey-more, survey-hidden}
use Rattle.slots.proofs.survey_slots.Goals as goal

pub returns-then-p-eq0 : goal.returns-then-p-eq0
returns-then-p-eq0 c = let a = c.args in let l = c.loop-i in
    sym (survey-none _ _ 0 0 _)
    ∙ scan-stop (λ (ss : List Slot). surveyed a.x.sibling a.bound ss l.s) _ l.i l.invariant.1 (omega arith) c.if-p-eq0.true
    ∙ survey-begun a.x a.bound c.first_low.ensures

pub loop-i-preserved : goal.loop-i-preserved
loop-i-preserved c = let a = c.args in let l = c.loop-i in
    let q = c.survey_slot-s.ensures in (
      omega (arith, survey-hidden _ _ _ _ _ _ q),
      scan-more (λ (ss : List Slot). surveyed a.x.sibling a.bound ss l.s) _ l.i l.invariant.1 (omega arith) c.if-p-eq0.false
          (survey-more _ _ _ _ _ _ _ q),
    )

pub returns : goal.returns
returns c = let a = c.args in let l = c.loop-i in
    sym (survey-none _ _ 0 0 _) ∙ scan-past (λ (ss : List Slot). surveyed a.x.sibling a.bound ss l.s) _ l.i l.invariant.1 (omega arith)
    ∙ survey-begun a.x a.bound c.first_low.ensures
