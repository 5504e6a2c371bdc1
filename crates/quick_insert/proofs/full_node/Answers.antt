-- `quick_insert::full_node` meets its contract.
use mathlib.Core.Path.{sym, ◌∙◌}
use Rattle.quick_insert.proofs.Splitting.{full-none, full-by}
use Rattle.quick_insert.proofs.full_node.Goals as goal

pub returns-then-in_range : goal.returns-then-in_range
returns-then-in_range c = full-by _ _ _ (sym c.in_range.ensures ∙ c.if-in_range.true) _ _ c.plain_count.ensures.value c.eq.ensures

pub returns-else-in_range : goal.returns-else-in_range
returns-else-in_range c = c.if-in_range.false ∙ full-none _ _ _ (sym c.in_range.ensures ∙ c.if-in_range.false)
