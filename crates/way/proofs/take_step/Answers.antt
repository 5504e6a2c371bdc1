-- `way::take_step` meets its contract, by the tests that led to each return.
use Rattle.std.proofs.Common.{sym, ◌∙◌, arith}
use Rattle.table_laws.proofs.Header.{nodes-few}
use Rattle.way.proofs.Walking.{step-lost, step-unfit, step-fit, stood-few}
use Rattle.way.proofs.take_step.Goals as goal

pub returns-in_err-s : goal.returns-in_err-s
returns-in_err-s c = c.from_residual.ensures ∙ step-lost _ _ _ _ _ (sym c.come.ensures ∙ c.in_err-s.was)

pub shown_fit-requires : goal.shown_fit-requires
shown_fit-requires c =
    let w = stood-few c.args.marks.now _ _ _ _ _ (sym c.come.ensures ∙ c.in_ok-s.was) in
    record { m_bound = omega (arith, w, c.requires.table_bound); m_bound_2 = omega (arith, w, nodes-few _ c.requires.table_value) }

pub returns-in_err-shown : goal.returns-in_err-shown
returns-in_err-shown c =
    c.from_residual-in_err-shown.ensures
    ∙ step-unfit _ _ _ _ _ _ (sym c.come.ensures ∙ c.in_ok-s.was) (sym c.shown_fit.ensures ∙ c.in_err-shown.was)

pub returns : goal.returns
returns c = step-fit _ _ _ _ _ _ (sym c.come.ensures ∙ c.in_ok-s.was) _ (sym c.shown_fit.ensures ∙ c.in_ok-shown.was)
