-- The answer to a request, and what is written over all pieces of the input.
use Rattle.std.specs.Prelude.{List, [], ◌∷◌, ◌++◌, length}
use Rattle.model.specs.Results.{Written}
use Rattle.model.specs.Table.{Words}
use Rattle.model.specs.Writes.{Call, insertion, deletion}
use Rattle.model.specs.Refusals.{written}
use Rattle.model.specs.Printer.{Bytes, Desk, Reply, reply}
use Rattle.script_bytes.specs.declared.LineState.{LineState}
use Rattle.script_bytes.specs.declared.Request.{Request}
use Rattle.script_bytes.specs.declared.Request.TheVariants.{Insertion, Deletion}
use Rattle.script_bytes.specs.Input.{Reading, reading, read_bytes, finished, print_on}

abbrev pub desk_of : (table list : Words) → Desk
desk_of t l = record { table = t; list = l }

-- for dock 0
abbrev pub answer_of : Call → Desk → Written
answer_of x d = written x (length d.list) 0 d.table

unfoldable pub answer_to : Request → Desk → Written
answer_to (Insertion k r) d = answer_of (insertion 1 k r 0) d
answer_to (Deletion k) d = answer_of (deletion 1 k) d

-- the line so far and the desk, with nothing printed yet
abbrev pub silent : LineState → Desk → Reading Reply
silent s d = reading s (reply [] d)

-- ---- the whole input, in pieces: what each call prints by itself, one after the other, and what the end prints

unfoldable pub told : LineState → Desk → List Bytes → Bytes
told s d [] = (finished print_on (silent s d)).bytes
told s d (p ∷ ps) = let x = read_bytes print_on (silent s d) p in x.state.bytes ++ told x.line x.state.desk ps
