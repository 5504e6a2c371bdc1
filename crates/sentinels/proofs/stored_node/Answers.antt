-- `sentinels::stored_node` meets its contract.
use Rattle.sentinels.proofs.Setting.{in-table, past-table}
use Rattle.sentinels.proofs.stored_node.Goals as goal

pub returns-then-w-len : goal.returns-then-w-len
returns-then-w-len c = in-table _ _ c.if-w-len.true

pub returns : goal.returns
returns c = past-table _ _ c.if-w-len.false
