-- `cells::enter` meets its contract.
use native.Mathlib.Omega.{arith}
use Rattle.cells.proofs.Walking.{enter-at, enter-past}
use Rattle.cells.proofs.enter.Goals as goal

pub returns-in-Some : goal.returns-in-Some
returns-in-Some c = enter-at _ _ _ c.in-Some.ensures.some.0

pub returns-in_default : goal.returns-in_default
returns-in_default c = enter-past _ _ _ c.in_default.ensures.none (omega arith)
