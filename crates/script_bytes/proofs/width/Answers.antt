-- `script_bytes::width` meets its contract.
use mathlib.Core.Path.{sym}
use Rattle.script_bytes.proofs.Decimal.{digits-of}
use Rattle.script_bytes.proofs.width.Goals as goal

pub returns : goal.returns
returns c = let k = c.ilog10.ensures in sym (digits-of _ _ _ c.max.ensures k.bound k.power_le k.next_power_gt)
