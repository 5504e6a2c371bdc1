-- `reach::unreachable` meets its contract.
use native.Mathlib.Omega.{arith}
use Rattle.reach.proofs.Members.{sound-words}
use Rattle.two_laws.proofs.CollectionTwo.{unreachable-all}
use Rattle.reach.proofs.unreachable.Goals as goal

pub bounds-table-2 : goal.bounds-table-2
bounds-table-2 c = omega (arith, sound-words _ c.requires.table_value)

pub overflow_sub-result : goal.overflow_sub-result
overflow_sub-result c = omega (arith, unreachable-all _ c.requires.table_value)

pub returns : goal.returns
returns c = omega (arith, unreachable-all _ c.requires.table_value)
