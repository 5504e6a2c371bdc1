-- `wear::unwanted` meets its contract.
use Rattle.std.proofs.Common.{arith}
use lib.Count.{trailing_le}
use Rattle.wear.proofs.Seeking.{word-least}
use Rattle.wear.proofs.unwanted.Goals as goal

pub overflow_cast-n : goal.overflow_cast-n
overflow_cast-n g c = omega (arith, trailing_le 64 c.wanted_bits-bits.result)

pub returns : goal.returns
returns g c = let args = c.args in rw c.min.ensures (word-least args.marks.now args.w _ _ c.wanted_bits-bits.ensures)
