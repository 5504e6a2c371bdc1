-- `short_scripts::expected` meets its contract.
use Rattle.std.proofs.Common.{sym, ap, ◌∙◌, arith, rules}
use Rattle.model.specs.declared.Answer.TheVariants.{Absent}
use Rattle.short_scripts.proofs.Keys.{has-within, there-answer, absent-answer}
use Rattle.short_scripts.proofs.expected.Goals as goal

-- holds-requires

pub overflow_add-result : goal.overflow_add-result
overflow_add-result c = omega (arith, has-within _ _ (search rules) (sym c.holds.ensures ∙ c.if-holds.true))

pub returns-then-holds : goal.returns-then-holds
returns-then-holds c =
    sym (there-answer _ _ (has-within _ _ (search rules) (sym c.holds.ensures ∙ c.if-holds.true)) (sym c.holds.ensures ∙ c.if-holds.true))

-- next_of-requires

pub returns : goal.returns
returns c = ap Absent c.next_of.ensures ∙ sym (absent-answer _ _ (sym c.holds.ensures ∙ c.if-holds.false))
