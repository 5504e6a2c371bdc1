-- `insert::has_recording` meets its contract.
use mathlib.Core.Path.{◌∙◌}
use Rattle.insert.proofs.Testing.{recording-hit}
use Rattle.insert.proofs.has_recording.Goals as goal

pub returns : goal.returns
returns c = c.is_some.ensures ∙ recording-hit _ _ _ c.requires c.find_recording.ensures
