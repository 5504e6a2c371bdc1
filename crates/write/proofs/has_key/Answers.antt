-- `write::has_key` meets its contract.
use mathlib.Core.Path.{◌∙◌}
use Rattle.write.proofs.Judging.{key-held}
use Rattle.write.proofs.has_key.Goals as goal

pub returns : goal.returns
returns c = c.is_some.ensures ∙ key-held _ _ _ _ _ _ c.requires c.standing-leaf.ensures c.read-x.ensures c.find.ensures
