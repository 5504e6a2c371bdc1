-- `printer::read_piece` meets its contract. The loop's invariant: what is left of the piece, read from the present state, ends as the
-- whole.
use lib.ListN.{length}
use Rattle.script_bytes.specs.Input.{read_bytes, print_on}
use Rattle.script.specs.Spoken.{silent}
use Rattle.script.specs.Session.{desk, Same_slices}
use Rattle.script.proofs.Spoken.{Same}
use Rattle.printer.proofs.read_piece.Given as goal

abbrev pub invariant-loop-rest : goal.invariant-loop-rest
invariant-loop-rest g l = Same (read_bytes print_on (silent l.session.line (desk l.session)) l.rest)
    (read_bytes print_on (silent l.initial.session.line (desk l.initial.session)) l.piece) × Same_slices l.initial.session l.session

abbrev pub decreases-loop-rest : goal.decreases-loop-rest
decreases-loop-rest g l = length l.rest
