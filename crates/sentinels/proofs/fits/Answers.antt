-- `sentinels::fits` meets its contract.
use native.Mathlib.Omega.{arith}
use Rattle.sentinels.proofs.Refusing.{few-nodes, length-wrong}
use Rattle.sentinels.proofs.fits.Goals as goal

pub bounds-table-2 : goal.bounds-table-2
bounds-table-2 c = omega (arith, (few-nodes _ c.requires).0)

pub overflow_mul-table : goal.overflow_mul-table
overflow_mul-table c = omega (arith, (few-nodes _ c.requires).1)

pub returns : goal.returns
returns c = length-wrong c.args.words c.args.table.now c.if-words-table.false
