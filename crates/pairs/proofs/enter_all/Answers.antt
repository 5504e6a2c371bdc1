-- `pairs::enter_all` meets its contract. The loop keeps what entering the numbers that are left comes to.
use Rattle.std.proofs.Common.{sym, refl, ◌∙◌, arith}
use Rattle.list_laws.proofs.Tools.{handed-on}
use Rattle.numbers.proofs.Once.{if-yes, if-no}
use Rattle.pairs.proofs.Passes.{enter-end, enter-goes, enter-ends}
use Rattle.pairs.proofs.enter_all.Goals as goal

pub returns : goal.returns
returns c = let l = c.loop-pair.invariant in enter-end l.entering (omega (arith, c.in-None.ensures.steps.1.0, l.pairs))

pub returns-in_err-enter : goal.returns-in_err-enter
returns-in_err-enter c = let l = c.loop-pair.invariant in let s = c.in-Some.ensures.steps in
    rw (handed-on c.from_residual.ensures.1)
    (enter-ends l.entering _ _ s.1.0 (s.1.1 ∙ l.pairs) _ c.recording-number.ensures _ _
    (c.enter.ensures ∙ sym (if-yes _ _ _ (sym c.has.ensures ∙ c.if-not-has.false))) _ c.in_err-enter.was)

pub loop-pair-preserved-then-not-has : goal.loop-pair-preserved-then-not-has
loop-pair-preserved-then-not-has c = let l = c.loop-pair.invariant in let s = c.in-Some.ensures.steps in
    record {
      pairs = s.0 ∙ l.pairs;
      entering = enter-goes l.entering _ _ s.1.0 (s.1.1 ∙ l.pairs) _ c.recording-number.ensures _ _
          (sym (if-no _ _ _ (sym c.has.ensures ∙ c.if-not-has.true))) refl;
    }

pub loop-pair-preserved : goal.loop-pair-preserved
loop-pair-preserved c = let l = c.loop-pair.invariant in let s = c.in-Some.ensures.steps in
    record {
      pairs = s.0 ∙ l.pairs;
      entering = enter-goes l.entering _ _ s.1.0 (s.1.1 ∙ l.pairs) _ c.recording-number.ensures _ _
          (c.enter.ensures ∙ sym (if-yes _ _ _ (sym c.has.ensures ∙ c.if-not-has.false))) c.in_ok-enter.was;
    }
