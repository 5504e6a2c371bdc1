-- `pairs::ok` meets its contract.
use Rattle.std.proofs.Common.{arith}
use Rattle.model.specs.SoundTest.{recordings_ok}
use Rattle.model.specs.Pack.{pairs_ok}
use Rattle.pairs.proofs.ok.Goals as goal
use Rattle.pairs.proofs.ok.Goals.{then-rise, else-rise}

pub returns-then-in_range : goal.returns-then-in_range
unfolding pairs_ok recordings_ok
returns-then-in_range c = elim c.if-rise.branch [ then-rise w ↦ grind arith | else-rise w ↦ grind arith ]

pub returns-else-in_range : goal.returns-else-in_range
unfolding pairs_ok recordings_ok
returns-else-in_range c = elim c.if-rise.branch [ then-rise w ↦ grind arith | else-rise w ↦ grind arith ]
