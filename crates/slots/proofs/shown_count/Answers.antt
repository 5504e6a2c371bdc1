-- `slots::shown_count` meets its contract.
use Rattle.std.proofs.Common.{length, ap, ◌∙◌}
use Rattle.slots.proofs.Kept.{all-kept}
use Rattle.slots.proofs.shown_count.Goals as goal

pub returns : goal.returns
returns c = c.kept_count.ensures ∙ ap length (all-kept 0 _)
