-- `every_script::put_line` meets its contract.
use native.Mathlib.Omega.{arith}
use Rattle.script_bytes.proofs.Decimal.{decimal-most}
use Rattle.script_bytes.proofs.Puts.{puts-then, room-after}
use Rattle.every_script.proofs.put_line.Goals as goal

pub put_byte-requires : goal.put_byte-requires
put_byte-requires c = room-after 20 1 c.put_number.ensures (decimal-most c.args.n) (omega (arith, c.requires))

pub returns : goal.returns
returns c = puts-then c.put_number.ensures (omega (arith, c.requires, decimal-most c.args.n)) c.put_byte.ensures
