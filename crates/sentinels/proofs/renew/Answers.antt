-- `sentinels::renew` meets its contract.
use mathlib.Core.Path.{◌∙◌}
use Rattle.sentinels.proofs.Setting.{copied}
use Rattle.sentinels.proofs.renew.Goals as goal

pub returns : goal.returns
returns c = copied c.args.words.now _ _ c.args.n (c.copy_from_slice.ensures.after ∙ c.three_of-three.ensures) c.requires.le_n
