-- `node::root_of` meets its contract.
use native.Mathlib.Omega.{arith}
use Rattle.table_laws.proofs.Header.{header-iff}
use Rattle.node.proofs.Roots.{second-root}
use Rattle.node.proofs.root_of.Goals as goal

pub bounds-table-1 : goal.bounds-table-1
bounds-table-1 c = omega (arith, ((header-iff _).0 c.requires.table_value).size)

pub bounds-table-3 : goal.bounds-table-3
bounds-table-3 c = omega (arith, ((header-iff _).0 c.requires.table_value).size)

pub returns : goal.returns
returns c = second-root _ _ c.requires.table_value_2 c.if-collection-eq1.false
