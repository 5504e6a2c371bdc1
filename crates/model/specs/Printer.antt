-- Document 01, "Worked on paper": the order printer, from input bytes to output bytes.
use Rattle.std.specs.Prelude.{Bool, true, false, cond, ◌&&◌, List, [], ◌∷◌, ◌++◌, map, ℕ, zero, suc, ◌+◌, ◌/◌, ◌%◌, eqb, ltb, leb, length, replicate, Ok, Err}
use Rattle.model.specs.Numbers.{refusal_number}
use Rattle.model.specs.Results.{Parsed}
use Rattle.model.specs.Text.{ascii}
use Rattle.model.specs.Lists.{all}
use Rattle.model.specs.Codes.{is_digit, value, number, parse}
use Rattle.model.specs.Table.{MARK, Words, empty}
use Rattle.model.specs.Orders.{Order, store, flush, barrier, BAR, store_count, flush_count}
use Rattle.model.specs.Writes.{Call, insertion, deletion}
use Rattle.model.specs.Refusals.{refusal, orders_of, table_after, list_after, unless_refused}

abbrev pub Bytes : Type 0
Bytes = List ℕ

-- ---- lines and fields

-- b before the first of the pieces
abbrev pub at_first : ℕ → List Bytes → List Bytes
at_first b [] = (b ∷ []) ∷ []
at_first b (l ∷ ls) = (b ∷ l) ∷ ls

-- the input's lines: each ends at a line feed; a last one without it counts unless it is empty
unfoldable pub lines : Bytes → List Bytes
lines [] = []
lines (b ∷ bs) = elim (eqb b 10) [ true ↦ [] ∷ lines bs | false ↦ at_first b (lines bs) ]

-- a line's fields: the runs between single spaces
unfoldable pub fields : Bytes → List Bytes
fields [] = [] ∷ []
fields (b ∷ bs) = elim (eqb b 32) [ true ↦ [] ∷ fields bs | false ↦ at_first b (fields bs) ]

-- ---- the forms of a line: `+ code recording`, `- code`, or another

pub data Form : Type 0 where
  plus : Bytes → ℕ → Form
  minus : Bytes → Form
  other : Form

abbrev pub non_empty : Bytes → Bool
non_empty [] = false
non_empty (b ∷ bs) = true

-- A recording is decimal digits that fit a word.
abbrev pub decimal_value : Bytes → ℕ
decimal_value ds = number 10 (map value ds)

unfoldable pub is_recording : Bytes → Bool
is_recording ds = non_empty ds && (all is_digit ds && leb (decimal_value ds) MARK)

-- the first field is just this character
abbrev pub just_is : ℕ → Bytes → Bool
just_is c [] = false
just_is c (b ∷ []) = eqb b c
just_is c (b ∷ d ∷ bs) = false

unfoldable pub form_of : List Bytes → Form
form_of [] = other
form_of (sign ∷ []) = other
form_of (sign ∷ code ∷ []) = cond (just_is 45 sign && non_empty code) (minus code) other
form_of (sign ∷ code ∷ recording ∷ []) =
    cond (just_is 43 sign && (non_empty code && is_recording recording)) (plus code (decimal_value recording)) other
form_of (sign ∷ code ∷ recording ∷ field ∷ more) = other

-- ---- what is printed

-- a number in decimal; fuel is at least the count of its digits
unfoldable pub decimal_from : (fuel : ℕ) → ℕ → Bytes
decimal_from zero n = []
decimal_from (suc f) n = elim (ltb n 10) [ true ↦ (48 + n) ∷ [] | false ↦ decimal_from f (n / 10) ++ ((48 + n % 10) ∷ []) ]

-- a word has 20 digits at most
unfoldable pub decimal : ℕ → Bytes
decimal n = decimal_from 20 n

-- a word of text, then numbers in decimal, a space before each, and a line feed
unfoldable pub numbers_text : List ℕ → Bytes
numbers_text [] = 10 ∷ []
numbers_text (n ∷ ns) = 32 ∷ (decimal n ++ numbers_text ns)

abbrev pub printed : Bytes → List ℕ → Bytes
printed text ns = text ++ numbers_text ns

-- dock 0's lists have no barrier: one would be printed by its two words
unfoldable pub order_text : Order → Bytes
order_text (store s) = printed (ascii "store") (s.word ∷ s.value ∷ [])
order_text (flush l) = printed (ascii "flush") (l ∷ [])
order_text barrier = printed (ascii "store") (BAR ∷ 0 ∷ [])

-- the orders, then `done` stores flushes
unfoldable pub orders_text : List Order → List Order → Bytes
orders_text all [] = printed (ascii "done") (store_count all ∷ flush_count all ∷ [])
orders_text all (o ∷ os) = order_text o ++ orders_text all os

abbrev pub refused_line : ℕ → Bytes
refused_line n = printed (ascii "refused") (n ∷ [])

-- ---- a line carried out on the table and the list

pub record Desk : Type 0 where
  pub table : Words
  pub list : Words

-- what a line prints, and the table and the list after it
pub record Reply : Type 0 where
  pub bytes : Bytes
  pub desk : Desk

abbrev pub reply : Bytes → Desk → Reply
reply bs d = record { bytes = bs; desk = d }

-- for dock 0
unfoldable pub do_call : Call → Desk → Reply
do_call x d =
    let n = refusal x (length d.list) 0 d.table in
    unless_refused n
    (reply (orders_text (orders_of x 0 d.table) (orders_of x 0 d.table))
    (record { table = table_after x (length d.list) 0 d.table; list = list_after x d.list 0 d.table }))
    (reply (refused_line n) d)

-- the call for a code that was read, or its refusal
abbrev pub with_key : Parsed → (ℕ → Call) → Desk → Reply
with_key (Ok k) call d = do_call (call k) d
with_key (Err r) call d = reply (refused_line (refusal_number r)) d

unfoldable pub do_form : Form → Desk → Reply
do_form (plus code r) d = with_key (parse code) (λ (k : ℕ). insertion 1 k r 0) d
do_form (minus code) d = with_key (parse code) (λ (k : ℕ). deletion 1 k) d
do_form other d = reply (refused_line 0) d

unfoldable pub do_line : Bytes → Desk → Reply
do_line l d = do_form (form_of (fields l)) d

unfoldable pub do_lines : List Bytes → Desk → Bytes
do_lines [] d = []
do_lines (l ∷ ls) d = let r = do_line l d in r.bytes ++ do_lines ls r.desk

-- It makes a table of one collection with N = 4, and keeps one list of 2,560 zeros.
abbrev pub first_desk : Desk
first_desk = record { table = empty 4; list = replicate 2560 0 }

unfoldable pub printer : Bytes → Bytes
printer input = do_lines (lines input) first_desk
