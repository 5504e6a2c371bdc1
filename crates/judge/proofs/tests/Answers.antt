-- `judge::tests` meets its contract, test by test.
use mathlib.Core.Path.{sym, ◌∙◌}
use Rattle.list_laws.proofs.Tools.{handed-on}
use Rattle.model.specs.declared.Refusal.TheVariants.{NotSettled, BadOrders, OtherLength}
use Rattle.model.proofs.Numbers.{refused-by}
use Rattle.judge.proofs.Answers.{no-root, not-sound, not-settled, not-inside, other-length, all-passed}
use Rattle.judge.proofs.tests.Goals as goal

pub returns-in_err-root : goal.returns-in_err-root
returns-in_err-root c =
    rw (handed-on c.from_residual.ensures.1) (no-root _ _ _ _ (sym c.find_root.ensures ∙ c.in_err-root.was))

pub returns-in_err-found : goal.returns-in_err-found
returns-in_err-found c =
    rw (handed-on c.from_residual-in_err-found.ensures.1)
    (not-sound _ _ _ _ (sym c.find_root.ensures ∙ c.in_ok-root.was) c.check.ensures (sym c.ok_or.ensures.value ∙ c.in_err-found.was))

pub returns-then-not-is_nothing : goal.returns-then-not-is_nothing
returns-then-not-is_nothing c =
    sym (refused-by NotSettled)
    ∙ not-settled _ _ _ _ (sym c.find_root.ensures ∙ c.in_ok-root.was) c.check.ensures (sym c.ok_or.ensures.value ∙ c.in_ok-found.was)
    c.is_nothing.ensures c.if-not-is_nothing.true

pub returns-then-not-all_inside : goal.returns-then-not-all_inside
returns-then-not-all_inside c =
    sym (refused-by BadOrders)
    ∙ not-inside _ _ _ _ (sym c.find_root.ensures ∙ c.in_ok-root.was) c.check.ensures (sym c.ok_or.ensures.value ∙ c.in_ok-found.was)
    c.is_nothing.ensures c.if-not-is_nothing.false
    c.all_inside.ensures c.if-not-all_inside.true

pub returns-then-words-table : goal.returns-then-words-table
returns-then-words-table c =
    sym (refused-by OtherLength)
    ∙ other-length _ _ _ _ (sym c.find_root.ensures ∙ c.in_ok-root.was) c.check.ensures (sym c.ok_or.ensures.value ∙ c.in_ok-found.was)
    c.is_nothing.ensures c.if-not-is_nothing.false
    c.all_inside.ensures c.if-not-all_inside.false c.if-words-table.true

pub returns : goal.returns
returns c =
    all-passed _ _ _ _ (sym c.find_root.ensures ∙ c.in_ok-root.was) c.check.ensures (sym c.ok_or.ensures.value ∙ c.in_ok-found.was)
    c.is_nothing.ensures c.if-not-is_nothing.false
    c.all_inside.ensures c.if-not-all_inside.false c.if-words-table.false
