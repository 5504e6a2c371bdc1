-- The input read byte by byte, in pieces of any size: each line is carried out at its line feed, an unfinished one at the end of the input.
use Rattle.std.specs.Prelude.{cond, List, [], ◌∷◌, ◌++◌, ℕ, eqb, Some, None, is_some, Ok, Err}
use Rattle.model.specs.Numbers.{refusal_number}
use Rattle.model.specs.Writes.{insertion, deletion}
use Rattle.model.specs.Printer.{Bytes, fields, form_of, refused_line, Desk, Reply, reply, do_call, first_desk}
use Rattle.script_bytes.specs.declared.LineState.{LineState}
use Rattle.script_bytes.specs.declared.LineRead.{LineRead}
use Rattle.script_bytes.specs.declared.Request.TheVariants.{Insertion, Deletion}
use Rattle.script_bytes.specs.Line.{Asked, begin, step, request, request_of, begun}

-- the line so far, and what the lines before it left
pub record Reading (A : Type 0) : Type 0 where
  pub line : LineState
  pub state : A

abbrev pub reading : {A : Type 0} → LineState → A → Reading A
reading l a = record { line = l; state = a }

unfoldable pub read_byte : {A : Type 0} → (Asked → A → A) → Reading A → ℕ → Reading A
read_byte act x b =
    cond (eqb b 10) (reading begin (act (request x.line) x.state)) (reading (step x.line b) x.state)

unfoldable pub read_bytes : {A : Type 0} → (Asked → A → A) → Reading A → Bytes → Reading A
read_bytes act x [] = x
read_bytes act x (b ∷ bs) = read_bytes act (read_byte act x b) bs

-- the pieces one after the other, and what they join to
unfoldable pub read_pieces : {A : Type 0} → (Asked → A → A) → Reading A → List Bytes → Reading A
read_pieces act x [] = x
read_pieces act x (p ∷ ps) = read_pieces act (read_bytes act x p) ps

unfoldable pub joined : List Bytes → Bytes
joined [] = []
joined (p ∷ ps) = p ++ joined ps

-- what a line read leaves: carried out if it has ended, and a new one begun
unfoldable pub line_done : {A : Type 0} → (Asked → A → A) → LineRead → A → Reading A
line_done act x a = cond (is_some x.end) (reading begin (act (request x.line) a)) (reading x.line a)

-- at the end of the input a line without a line feed counts unless it is empty
unfoldable pub finished : {A : Type 0} → (Asked → A → A) → Reading A → A
finished act x = cond (begun x.line.place) (act (request x.line) x.state) x.state

-- lines carried out one after the other, by document 01's form of each
unfoldable pub carried : {A : Type 0} → (Asked → A → A) → List Bytes → A → A
carried act [] a = a
carried act (l ∷ ls) a = carried act ls (act (request_of (form_of (fields l))) a)

-- ---- the order printer

unfoldable pub do_request : Asked → Desk → Reply
do_request (Ok (Some (Insertion k r))) d = do_call (insertion 1 k r 0) d
do_request (Ok (Some (Deletion k))) d = do_call (deletion 1 k) d
do_request (Ok None) d = reply (refused_line 0) d
do_request (Err r) d = reply (refused_line (refusal_number r)) d

-- what was printed so far and the desk, after one request more
unfoldable pub print_on : Asked → Reply → Reply
print_on q x = let r = do_request q x.desk in reply (x.bytes ++ r.bytes) r.desk

-- nothing read and nothing printed
abbrev pub opening : Reading Reply
opening = reading begin (reply [] first_desk)
