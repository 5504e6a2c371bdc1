-- `marks::few` meets its contract.
use mathlib.Core.Path.{◌∙◌}
use Rattle.model.specs.Summary.{unmarked}
use Rattle.marks.proofs.Rows.{few-end}
use Rattle.marks.proofs.few.Goals as goal

pub returns-else-few_after : goal.returns-else-few_after
unfolding unmarked
returns-else-few_after c = c.if-few_after.false ∙ few-end _ _ _ _ c.few_after.ensures c.if-few_after.false
