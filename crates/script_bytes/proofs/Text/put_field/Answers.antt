-- `script_bytes::Text::put_field` meets its contract.
use native.Mathlib.Omega.{arith}
use Rattle.script_bytes.proofs.Puts.{puts-then, room-after}
use Rattle.script_bytes.proofs.Text.put_field.Goals as goal

pub put_number-requires : goal.put_number-requires
put_number-requires c = room-after 1 20 c.put_byte.ensures (omega arith) c.requires

pub returns : goal.returns
returns c = puts-then c.put_byte.ensures (omega (arith, c.requires)) c.put_number.ensures
