-- `every_script::report` meets its contract.
use native.Mathlib.Omega.{arith}
use Rattle.script_bytes.proofs.Puts.{room-after}
use Rattle.every_script.proofs.Lines.{line-most, two-lines}
use Rattle.every_script.proofs.report.Goals as goal

pub put_line-requires : goal.put_line-requires
put_line-requires c = omega (arith, c.requires.room)

pub put_line-requires-2 : goal.put_line-requires-2
put_line-requires-2 c = room-after 21 21 c.put_line.ensures (line-most c.run_all-met.result.tables) c.requires.room

pub returns : goal.returns
returns c =
    let m = c.run_all-met in
    two-lines m.result.tables m.result.bad m.ensures.tables_value m.ensures.bad_value c.requires.empty c.requires.room
    c.put_line.ensures c.put_line-2.ensures
