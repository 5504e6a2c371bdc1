-- `reach::is_full` meets its contract, by the test that led to each return.
use mathlib.Core.Path.{sym, ◌∙◌}
use Rattle.reach.proofs.Running.{full-pending, full-other}
use Rattle.reach.proofs.is_full.Goals as goal

pub returns-then-eq : goal.returns-then-eq
returns-then-eq c = full-pending _ _ _ _ c.kept_count-kept.ensures (sym c.eq.ensures ∙ c.if-eq.true)

pub returns : goal.returns
returns c = full-other _ _ _ _ c.kept_count-kept.ensures (sym c.eq.ensures ∙ c.if-eq.false)
