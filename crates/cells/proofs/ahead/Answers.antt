-- `cells::ahead` meets its contract.
use native.Mathlib.Omega.{arith}
use Rattle.cells.proofs.Walking.{ahead-up, ahead-round}
use Rattle.cells.proofs.ahead.Goals as goal

pub returns-then-i-j : goal.returns-then-i-j
returns-then-i-j c = ahead-up _ _ _ c.if-i-j.true

pub returns : goal.returns
returns c = ahead-round _ _ _ c.requires.i_lt_places (omega (arith, c.if-i-j.false))
