-- `sound::is_sound` meets its contract.
use mathlib.Core.Path.{ap, ◌∙◌}
use Rattle.std.specs.Prelude.{is_some}
use Rattle.sound.proofs.JudgeLaws.{checked-some}
use Rattle.sound.proofs.is_sound.Goals as goal

pub returns : goal.returns
returns c = c.is_some.ensures ∙ ap is_some c.check.ensures ∙ checked-some _
