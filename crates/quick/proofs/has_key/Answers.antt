-- `quick::has_key` meets its contract.
use mathlib.Core.Path.{ap, ◌∙◌}
use Rattle.std.specs.Prelude.{is_some}
use Rattle.quick.proofs.Beginning.{held-key}
use Rattle.quick.proofs.has_key.Goals as goal

pub returns : goal.returns
returns c = c.is_some.ensures ∙ ap is_some c.held.ensures ∙ held-key _ _
