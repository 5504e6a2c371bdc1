-- `cells::take_out` meets its contract.
use native.Mathlib.Omega.{arith}
use Rattle.cells.proofs.Walking.{out-past, out-other, out-at}
use Rattle.cells.proofs.take_out.Goals as goal

pub returns-in_default : goal.returns-in_default
returns-in_default c = out-past _ _ _ c.in_default.ensures.none (omega arith) c.requires.number_nonzero

pub returns-else-cells-at : goal.returns-else-cells-at
returns-else-cells-at c = out-other _ _ _ c.in-Some.ensures.some.0 c.if-cells-at.false

pub returns-then-cells-at : goal.returns-then-cells-at
returns-then-cells-at c = out-at _ _ _ _ c.in-Some.ensures.some.0 c.if-cells-at.true c.close_up.ensures
