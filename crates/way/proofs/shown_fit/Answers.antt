-- `way::shown_fit` meets its contract.
use mathlib.Core.Path.{sym, ◌∙◌}
use Rattle.way.proofs.Walking.{fit-off, fit-hides, fit-shown}
use Rattle.way.proofs.shown_fit.Goals as goal

pub returns-then-not-has : goal.returns-then-not-has
returns-then-not-has c = fit-off _ _ _ (sym c.has.ensures ∙ c.if-not-has.true)

pub returns-in_err-shown : goal.returns-in_err-shown
returns-in_err-shown c =
    c.from_residual.ensures
    ∙ fit-hides _ _ _ (sym c.has.ensures ∙ c.if-not-has.false) (sym c.plain_count.ensures.value ∙ c.in_err-shown.was)

pub returns : goal.returns
returns c = fit-shown _ _ _ _ _ (sym c.has.ensures ∙ c.if-not-has.false)
    (sym c.plain_count.ensures.value ∙ c.in_ok-shown.was) c.then_some.ensures
