-- `quick_insert::roomy` meets its contract.
use Rattle.std.proofs.Common.{sym, ◌∙◌, rules}
use Rattle.quick_insert.proofs.Splitting.{roomy-none, roomy-by}
use Rattle.quick_insert.proofs.roomy.Goals as goal

pub returns-then-in_range : goal.returns-then-in_range
returns-then-in_range c =
    roomy-by _ _ _ (sym c.in_range.ensures ∙ c.if-in_range.true) _ _ _ (λ x p. search rules)
    c.plain_count.ensures.value c.is_some_and.ensures

pub returns-else-in_range : goal.returns-else-in_range
returns-else-in_range c = c.if-in_range.false ∙ roomy-none _ _ _ (sym c.in_range.ensures ∙ c.if-in_range.false)
