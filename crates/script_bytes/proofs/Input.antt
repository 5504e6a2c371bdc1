-- Reading the input byte by byte, in pieces of any size, carries out document 01's lines in order; so the printer's bytes come out.
use Rattle.std.proofs.Common.{◌≡◌, ℕ, ◌<◌, ◌≤◌, Bool, true, false, cond, ◌||◌, eqb, List, [], ◌∷◌, ◌++◌, length, take, sym, refl, ap, ◌∙◌}
use Rattle.std.proofs.Common.{append_assoc, append-nil, one-add, arith, eqb-true}
use Rattle.std.specs.Prelude.{Option, Some, None, is_some, Ok, Err}
use Rattle.model.specs.Results.{Parsed}
use Rattle.model.specs.Codes.{parse}
use Rattle.model.specs.Writes.{insertion, deletion}
use Rattle.model.specs.Printer.{Bytes, at_first, lines, fields, Form, plus, minus, other, form_of, Desk, Reply, reply, with_key, do_form}
use Rattle.model.specs.Printer.{do_line, do_lines, first_desk, printer}
use Rattle.script_bytes.specs.Line.{Asked, begin, next_place, next_number, with_number, with_digit, entered, step, after, further_by}
use Rattle.script_bytes.specs.Line.{further, line_in, used_of, insertion_of, deletion_of, request, request_of, begun}
use Rattle.script_bytes.specs.Input.{Reading, reading, read_byte, read_bytes, read_pieces, joined, line_done, finished, carried, do_request}
use Rattle.script_bytes.specs.Input.{print_on, opening}
use Rattle.script_bytes.specs.declared.LineState.{LineState}
use Rattle.script_bytes.specs.declared.LineRead.{LineRead}
use Rattle.script_bytes.specs.declared.Place.{Place}
use Rattle.script_bytes.specs.declared.Place.TheVariants.{Start, Sign, CodeStart, Code, RecordingStart, Recording, Other}
use Rattle.script_bytes.proofs.Reading.{onward, onward-first, line-judged}

some-further : (n : ℕ) (i : Option ℕ) → is_some (further_by n i) ≡ is_some i
some-further n None = refl
some-further n (Some i) = refl

-- ---- a line with a byte has begun

begun-either : (t : Bool) (p q : Place) → begun p ≡ true → begun q ≡ true → begun (cond t p q) ≡ true
begun-either true p q e f = e
begun-either false p q e f = f

next-begun : (p : Place) (s : Bool) (b : ℕ) → begun (next_place p s b) ≡ true
unfolding begun next_place
next-begun Start s b = begun-either (eqb b 43 || eqb b 45) Sign Other refl refl
next-begun Sign s b = begun-either (eqb b 32) CodeStart Other refl refl
next-begun CodeStart s b = begun-either (eqb b 32) Other Code refl refl
next-begun Code s b = begun-either (eqb b 32) (cond s RecordingStart Other) Code (begun-either s RecordingStart Other refl refl) refl
next-begun RecordingStart s b = refl
next-begun Recording s b = refl
next-begun Other s b = refl

numbered-begun : (s : LineState) (q : Option ℕ) → begun (with_number s q).place ≡ true
unfolding begun
numbered-begun s (Some n) = refl
numbered-begun s None = refl

entered-begun : (p : Place) (s : LineState) (b : ℕ) → begun p ≡ true → begun (entered p s b).place ≡ true
unfolding begun entered with_digit
entered-begun Start s b e = e
entered-begun Sign s b e = refl
entered-begun CodeStart s b e = refl
entered-begun Code s b e = refl
entered-begun RecordingStart s b e = refl
entered-begun Recording s b e = numbered-begun s (next_number s.recording b)
entered-begun Other s b e = refl

step-begun : (s : LineState) (b : ℕ) → begun (step s b).place ≡ true
unfolding step
step-begun s b = entered-begun (next_place s.place s.plus b) s b (next-begun s.place s.plus b)

after-begun : (s : LineState) (l : Bytes) → begun s.place ≡ true → begun (after s l).place ≡ true
unfolding after
after-begun s [] e = e
after-begun s (b ∷ bs) e = after-begun (step s b) bs (step-begun s b)

line-begun : (b : ℕ) (bs : Bytes) → begun (after begin (b ∷ bs)).place ≡ true
unfolding after
line-begun b bs = after-begun (step begin b) bs (step-begun begin b)

-- ---- the lines of the input

after-snoc : (s : LineState) (l : Bytes) (b : ℕ) → after s (l ++ (b ∷ [])) ≡ step (after s l) b
unfolding after
after-snoc s [] b = refl
after-snoc s (c ∷ l) b = after-snoc (step s c) l b

-- the lines that are left, the first one begun with these bytes
abbrev left_lines : Bytes → List Bytes → List Bytes
left_lines [] ls = ls
left_lines (c ∷ cs) ls = onward (c ∷ cs) ls

left-feed : (text : Bytes) (ls : List Bytes) → left_lines text ([] ∷ ls) ≡ text ∷ ls
left-feed [] ls = refl
left-feed (c ∷ cs) ls = rw append-nil

left-more : (text : Bytes) (b : ℕ) (ls : List Bytes) → left_lines text (at_first b ls) ≡ left_lines (text ++ (b ∷ [])) ls
left-more [] b [] = refl
left-more [] b (l ∷ ls) = refl
left-more (c ∷ cs) b ls = onward-first (c ∷ cs) b ls

lines-feed : (bs : Bytes) → lines (10 ∷ bs) ≡ [] ∷ lines bs
unfolding lines
lines-feed bs = refl

lines-other : (b : ℕ) (bs : Bytes) → eqb b 10 ≡ false → lines (b ∷ bs) ≡ at_first b (lines bs)
unfolding lines
lines-other b bs e = rw (e, lines)

-- a line feed, and any other byte
pub byte-feed : {A : Type 0} (act : Asked → A → A) (s : LineState) (a : A) → read_byte act (reading s a) 10
    ≡ reading begin (act (request s) a)
unfolding read_byte
byte-feed act s a = refl

pub byte-other : {A : Type 0} (act : Asked → A → A) (s : LineState) (a : A) (b : ℕ) → eqb b 10 ≡ false
    → read_byte act (reading s a) b ≡ reading (step s b) a
unfolding read_byte
byte-other act s a b e = rw e

module _ {A : Type 0} (act : Asked → A → A) where
  -- at the end of the input
  at-end : (text : Bytes) (a : A) → finished act (reading (after begin text) a) ≡ carried act (left_lines text []) a
  unfolding finished carried begun after
  at-end [] a = refl
  at-end (c ∷ cs) a = rw (line-begun c cs) (ap (λ (q : Asked). act q a) (line-judged (c ∷ cs)))

  -- one byte on
  at-byte : (text : Bytes) (a : A) (b : ℕ) (bs : Bytes)
      → ((text : Bytes) (a : A) → finished act (read_bytes act (reading (after begin text) a) bs)
      ≡ carried act (left_lines text (lines bs)) a)
      → finished act (read_bytes act (read_byte act (reading (after begin text) a) b) bs) ≡ carried act (left_lines text (lines (b ∷ bs))) a
  unfolding carried after
  at-byte text a b bs ih = go (eqb b 10) refl
    where
      go : (t : Bool) → eqb b 10 ≡ t
          → finished act (read_bytes act (read_byte act (reading (after begin text) a) b) bs)
          ≡ carried act (left_lines text (lines (b ∷ bs))) a
      go true e = rw (eqb-true b 10 e, byte-feed, lines-feed, left-feed, line-judged) (ih [] (act (request_of (form_of (fields text))) a))
      go false e = rw (byte-other act (after begin text) a b e, lines-other b bs e, left-more, ← after-snoc) (ih (text ++ (b ∷ [])) a)

  -- the line so far is text
  at-line : (text : Bytes) (a : A) (input : Bytes)
      → finished act (read_bytes act (reading (after begin text) a) input) ≡ carried act (left_lines text (lines input)) a
  unfolding read_bytes lines
  at-line text a [] = at-end text a
  at-line text a (b ∷ bs) = at-byte text a b bs (λ text' a'. at-line text' a' bs)

  -- Every line is carried out, in order, each as document 01's form asks.
  pub lines-read : (input : Bytes) (a : A) → finished act (read_bytes act (reading begin a) input) ≡ carried act (lines input) a
  unfolding after
  lines-read input a = at-line [] a input

  -- How the input is cut into pieces does not matter.
  pub bytes-append : (x : Reading A) (xs ys : Bytes) → read_bytes act x (xs ++ ys) ≡ read_bytes act (read_bytes act x xs) ys
  unfolding read_bytes
  bytes-append x [] ys = refl
  bytes-append x (b ∷ xs) ys = bytes-append (read_byte act x b) xs ys

  -- one byte more before it
  done-further : (s : LineState) (a : A) (b : ℕ) (bs : Bytes) (x : LineRead) → eqb b 10 ≡ false
      → read_bytes act (reading (step s b) a) (take (used_of x.end bs) bs) ≡ line_done act x a
      → read_bytes act (reading s a) (take (used_of (further x).end (b ∷ bs)) (b ∷ bs)) ≡ line_done act (further x) a
  unfolding read_bytes line_done
  done-further s a b bs x e h =
      go x.end h ∙ ap (λ (t : Bool). cond t (reading begin (act (request x.line) a)) (reading x.line a)) (sym (some-further 1 x.end))
    where
      go : (i : Option ℕ) → read_bytes act (reading (step s b) a) (take (used_of i bs) bs)
          ≡ cond (is_some i) (reading begin (act (request x.line) a)) (reading x.line a)
          → read_bytes act (reading s a) (take (used_of (further_by 1 i) (b ∷ bs)) (b ∷ bs))
          ≡ cond (is_some i) (reading begin (act (request x.line) a)) (reading x.line a)
      go None q = rw (read_bytes, byte-other act s a b e) q
      go (Some i) q = rw (one-add i, read_bytes, byte-other act s a b e) q

  -- The first line of a piece, or all of it where it has no line feed.
  pub line-done : (s : LineState) (a : A) (bs : Bytes) → read_bytes act (reading s a) (take (used_of (line_in s bs).end bs) bs)
      ≡ line_done act (line_in s bs) a
  unfolding read_bytes line_in line_done
  line-done s a [] = refl
  line-done s a (b ∷ bs) = go (eqb b 10) refl (line-done (step s b) a bs)
    where
      go : (t : Bool) → eqb b 10 ≡ t → read_bytes act (reading (step s b) a) (take (used_of (line_in (step s b) bs).end bs) bs)
          ≡ line_done act (line_in (step s b) bs) a
          → read_bytes act (reading s a) (take (used_of (line_in s (b ∷ bs)).end (b ∷ bs)) (b ∷ bs)) ≡ line_done act (line_in s (b ∷ bs)) a
      go true e ih = rw (line_in, e, read_bytes, eqb-true b 10 e, byte-feed)
      go false e ih = rw (line_in, e) (done-further s a b bs (line_in (step s b) bs) e ih)

  pub pieces-read : (x : Reading A) (ps : List Bytes) → read_pieces act x ps ≡ read_bytes act x (joined ps)
  unfolding read_pieces read_bytes joined
  pieces-read x [] = refl
  pieces-read x (p ∷ ps) = pieces-read (read_bytes act x p) ps ∙ sym (bytes-append x p (joined ps))

-- it uses no more than the piece has, and at least one byte of a piece that has any
abbrev Used : Option ℕ → Bytes → Type 0
Used i piece = (used_of i piece ≤ length piece) × (0 < length piece → 0 < used_of i piece)

used-further : (b : ℕ) (bs : Bytes) (i : Option ℕ) → Used i bs → Used (further_by 1 i) (b ∷ bs)
used-further b bs None h = (omega arith, λ p. omega arith)
used-further b bs (Some i) h = (omega (arith, h.0), λ p. omega arith)

-- reading a line uses no more bytes than there are, and at least one if there is any
pub line-used : (s : LineState) (bs : Bytes) → Used (line_in s bs).end bs
unfolding line_in
line-used s [] = (omega arith, λ h. h)
line-used s (b ∷ bs) = go (eqb b 10) (line_in (step s b) bs) (line-used (step s b) bs)
  where
    go : (t : Bool) (x : LineRead) → Used x.end bs → Used (cond t (record { line = s; end = Some 1 }) (further x)).end (b ∷ bs)
    go true x h = (omega arith, λ p. omega arith)
    go false x h = used-further b bs x.end h

-- ---- the printer

asked-key : (x : Parsed) (r : ℕ) (d : Desk) → with_key x (λ (k : ℕ). insertion 1 k r 0) d ≡ do_request (insertion_of x r) d
unfolding do_request
asked-key (Ok k) r d = refl
asked-key (Err e) r d = refl

asked-gone : (x : Parsed) (d : Desk) → with_key x (λ (k : ℕ). deletion 1 k) d ≡ do_request (deletion_of x) d
unfolding do_request
asked-gone (Ok k) d = refl
asked-gone (Err e) d = refl

-- What a line's form does is what its request does.
pub form-asked : (f : Form) (d : Desk) → do_form f d ≡ do_request (request_of f) d
unfolding do_form do_request
form-asked (plus code r) d = asked-key (parse code) r d
form-asked (minus code) d = asked-gone (parse code) d
form-asked other d = refl

carried-lines : (ls : List Bytes) (x : Reply) → (carried print_on ls x).bytes ≡ x.bytes ++ do_lines ls x.desk
unfolding carried print_on do_lines do_line
carried-lines [] x = sym (append-nil x.bytes)
carried-lines (l ∷ ls) x =
    carried-lines ls (print_on (request_of (form_of (fields l))) x) ∙ rw (form-asked (form_of (fields l)) x.desk, append_assoc)

-- The bytes printed over the input, in pieces of any size, are the printer's.
pub printer-read : (ps : List Bytes) → (finished print_on (read_pieces print_on opening ps)).bytes ≡ printer (joined ps)
unfolding printer
printer-read ps =
    rw (pieces-read print_on opening ps, lines-read print_on (joined ps) (reply [] first_desk))
    (carried-lines (lines (joined ps)) (reply [] first_desk))
