-- `gap::put` meets its contract.
use Rattle.std.proofs.Common.{◌*◌, arith, length-set}
use Rattle.gap.proofs.Around.{stored-parts}
use Rattle.gap.proofs.put.Goals as goal

pub bounds-pairs-at-2 : goal.bounds-pairs-at-2
bounds-pairs-at-2 c = simp length-set (omega (arith, c.requires.0))

pub returns : goal.returns
returns c = stored-parts c.args.pairs.now (2 * c.args.at) c.args.key c.args.pointer (omega (arith, c.requires.0))
