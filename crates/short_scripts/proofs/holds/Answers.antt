-- `short_scripts::holds` meets its contract.
use Rattle.std.proofs.Common.{◌∙◌, rules}
use Rattle.short_scripts.proofs.Keys.{has-at, has-other}
use Rattle.short_scripts.proofs.holds.Goals as goal

pub returns-then-contains : goal.returns-then-contains
returns-then-contains c = has-at _ _ (search rules)

pub returns-else-contains : goal.returns-else-contains
returns-else-contains c = c.if-contains.false ∙ has-other _ _ (search rules) (λ p. absurd (search rules))
