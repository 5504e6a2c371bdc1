-- A line read byte by byte: the state after its bytes, and what that state asks.
use Rattle.std.specs.Prelude.{Bool, true, false, cond, ◌&&◌, ◌||◌, [], ◌∷◌, ℕ, ◌+◌, ◌*◌, eqb, ltb, leb, length}
use Rattle.std.specs.Prelude.{set, replicate, Option, Some, None, unwrap_or, Result, Ok, Err}
use Rattle.model.specs.declared.Refusal.{Refusal}
use Rattle.model.specs.Results.{Parsed, refused_with}
use Rattle.model.specs.Codes.{is_digit, value, parse}
use Rattle.model.specs.Table.{MARK}
use Rattle.model.specs.Printer.{Bytes, Form, plus, minus, other}
use Rattle.script_bytes.specs.declared.Place.{Place}
use Rattle.script_bytes.specs.declared.Place.TheVariants.{Start, Sign, CodeStart, Code, RecordingStart, Recording, Other}
use Rattle.script_bytes.specs.declared.Characters.{Characters}
use Rattle.script_bytes.specs.declared.LineState.{LineState}
use Rattle.script_bytes.specs.declared.LineRead.{LineRead}
use Rattle.script_bytes.specs.declared.Request.{Request}
use Rattle.script_bytes.specs.declared.Request.TheVariants.{Insertion, Deletion}

-- no byte yet
abbrev pub begin : LineState
begin = record { place = Start; plus = false; code = record { bytes = replicate 12 0; count = 0 }; recording = 0 }

-- ---- one byte more

-- where in the form byte b stands
unfoldable pub next_place : Place → Bool → ℕ → Place
next_place Start p b = cond (eqb b 43 || eqb b 45) Sign Other
next_place Sign p b = cond (eqb b 32) CodeStart Other
next_place CodeStart p b = cond (eqb b 32) Other Code
next_place Code p b = cond (eqb b 32) (cond p RecordingStart Other) Code
next_place RecordingStart p b = Recording
next_place Recording p b = Recording
next_place Other p b = Other

-- at another place, all else the same
abbrev pub moved : LineState → Place → LineState
moved s p = record { place = p; plus = s.plus; code = s.code; recording = s.recording }

-- with its sign b
abbrev pub with_sign : LineState → ℕ → LineState
with_sign s b = record { place = Sign; plus = eqb b 43; code = s.code; recording = s.recording }

-- one character more: the first 12 are kept, and any number above counts as 13
unfoldable pub longer : Characters → ℕ → Characters
longer t b =
    cond (ltb t.count 12) (record { bytes = set t.bytes t.count b; count = t.count + 1 }) (record { bytes = t.bytes; count = 13 })

-- b is one character more of the code
abbrev pub with_character : LineState → ℕ → LineState
with_character s b = record { place = Code; plus = s.plus; code = longer s.code b; recording = s.recording }

-- the number with byte b more: a digit, which leaves it within a word
unfoldable pub next_number : ℕ → ℕ → Option ℕ
next_number n b = cond (is_digit b && leb (n * 10 + value b) MARK) (Some (n * 10 + value b)) None

-- with the recording's number, if there is one
abbrev pub with_number : LineState → Option ℕ → LineState
with_number s (Some n) = record { place = Recording; plus = s.plus; code = s.code; recording = n }
with_number s None = moved s Other

-- b is one byte more of the recording
unfoldable pub with_digit : LineState → ℕ → LineState
with_digit s b = with_number s (next_number s.recording b)

-- byte b at the place that it leads to
unfoldable pub entered : Place → LineState → ℕ → LineState
entered Start s b = moved s Start
entered Sign s b = with_sign s b
entered CodeStart s b = moved s CodeStart
entered Code s b = with_character s b
entered RecordingStart s b = moved s RecordingStart
entered Recording s b = with_digit s b
entered Other s b = moved s Other

unfoldable pub step : LineState → ℕ → LineState
step s b = entered (next_place s.place s.plus b) s b

-- the state after the bytes of a line, from state s
unfoldable pub after : LineState → Bytes → LineState
after s [] = s
after s (b ∷ bs) = after (step s b) bs

-- ---- the line that a piece of the input goes on with

-- a place further by n, and the same read with one byte more before it
abbrev pub further_by : ℕ → Option ℕ → Option ℕ
further_by n None = None
further_by n (Some i) = Some (n + i)

abbrev pub further : LineRead → LineRead
further x = record { line = x.line; end = further_by 1 x.end }

-- up to the piece's first line feed, which is used too; all of it if it has none
unfoldable pub line_in : LineState → Bytes → LineRead
line_in s [] = record { line = s; end = None }
line_in s (b ∷ bs) = cond (eqb b 10) (record { line = s; end = Some 1 }) (further (line_in (step s b) bs))

-- how many bytes of the piece are used
abbrev pub used_of : Option ℕ → Bytes → ℕ
used_of end piece = unwrap_or end (length piece)

-- ---- what a line asks

-- a request; none, if the line is of another form; or the refusal of its code
abbrev pub Asked : Type 0
Asked = Result (Option Request) Refusal

-- the code that was read
unfoldable pub code_of : Characters → Parsed
code_of t = cond (eqb t.count 12) (parse t.bytes) (refused_with 1)

abbrev pub insertion_of : Parsed → ℕ → Asked
insertion_of (Ok k) r = Ok (Some (Insertion k r))
insertion_of (Err e) r = Err e

abbrev pub deletion_of : Parsed → Asked
deletion_of (Ok k) = Ok (Some (Deletion k))
deletion_of (Err e) = Err e

-- by the state that a line's bytes leave, whose place is the first argument
unfoldable pub request_at : Place → LineState → Asked
request_at Start s = Ok None
request_at Sign s = Ok None
request_at CodeStart s = Ok None
request_at Code s = cond s.plus (Ok None) (deletion_of (code_of s.code))
request_at RecordingStart s = Ok None
request_at Recording s = insertion_of (code_of s.code) s.recording
request_at Other s = Ok None

abbrev pub request : LineState → Asked
request s = request_at s.place s

-- by document 01's form of the line
abbrev pub request_of : Form → Asked
request_of (plus code r) = insertion_of (parse code) r
request_of (minus code) = deletion_of (parse code)
request_of other = Ok None

-- a line has begun once it has a byte
unfoldable pub begun : Place → Bool
begun Start = false
begun Sign = true
begun CodeStart = true
begun Code = true
begun RecordingStart = true
begun Recording = true
begun Other = true
