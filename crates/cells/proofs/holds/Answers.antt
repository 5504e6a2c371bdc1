-- `cells::holds` meets its contract.
use native.Mathlib.Omega.{arith}
use Rattle.cells.proofs.Walking.{holds-past, holds-at}
use Rattle.cells.proofs.holds.Goals as goal

pub returns-in-Some : goal.returns-in-Some
returns-in-Some c = holds-at _ _ _ c.in-Some.ensures.some.0

pub returns-in-None : goal.returns-in-None
returns-in-None c = holds-past _ _ _ c.in-None.ensures.none (omega arith) c.requires.number_nonzero
