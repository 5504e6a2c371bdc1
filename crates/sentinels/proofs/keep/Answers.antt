-- `sentinels::keep` meets its contract.
use Rattle.sentinels.proofs.Setting.{stored-none}
use Rattle.sentinels.proofs.keep.Goals as goal

pub returns-in_default : goal.returns-in_default
returns-in_default c = rw c.in_default.is (stored-none c.args.table.now c.args.words.now _ c.requires.slice)
