-- What is printed from the answer and the list is document 01's text of the request; so the calls over all pieces print the printer's
-- bytes.
use Rattle.std.proofs.Common.{◌≡◌, ℕ, zero, suc, ◌+◌, ◌≤◌, Bool, true, false, eqb, List, [], ◌∷◌, ◌++◌, length, take, drop, sym, refl, ap}
use Rattle.std.proofs.Common.{◌∙◌, inl, inr, append_assoc, append-nil, arith, take-append-drop}
use Rattle.std.specs.Prelude.{Some, None, Ok, Err}
use Rattle.model.specs.declared.Refusal.{Refusal}
use Rattle.model.specs.Numbers.{refusal_number, refusal_of}
use Rattle.model.specs.Results.{Written}
use Rattle.model.specs.Table.{Words}
use Rattle.model.specs.Orders.{Order, store_count, flush_count, decode, list_with}
use Rattle.model.specs.Writes.{Call, insertion, deletion, stores_of}
use Rattle.model.specs.Refusals.{refusal, unless_refused, orders_of, written, table_after, list_after}
use Rattle.model.specs.Printer.{Bytes, orders_text, refused_line, Desk, Reply, reply, do_call, first_desk, printer}
use Rattle.script_bytes.specs.declared.Request.{Request}
use Rattle.script_bytes.specs.declared.Request.TheVariants.{Insertion, Deletion}
use Rattle.script_bytes.specs.declared.LineState.{LineState}
use Rattle.script_bytes.specs.Line.{Asked, begin, line_in, used_of, request, begun}
use Rattle.script_bytes.specs.declared.LineRead.{LineRead}
use Rattle.script_bytes.specs.declared.Text.{Text}
use Rattle.script_bytes.specs.Text.{order_lines, done_line, spoken, bytes_of, Puts}
use Rattle.script_bytes.specs.Input.{Reading, reading, read_byte, read_bytes, do_request, print_on, read_pieces, joined, line_done}
use Rattle.script_bytes.specs.Input.{finished}
use Rattle.model.proofs.Numbers.{Numbered, refusal-numbered}
use Rattle.script_bytes.proofs.Puts.{puts-whole}
use Rattle.script_bytes.proofs.Input.{bytes-append, line-done, line-used, printer-read}
use Rattle.cut_laws.proofs.Applying.{counts-length}
use Rattle.cut_laws.proofs.Lent.{list-read-back}
use Rattle.two_laws.proofs.AcceptedTwo.{accepted-iff}
use Rattle.two_laws.proofs.MapsTwo.{accepted-steps}
use Rattle.two_laws.proofs.DocksTwo.{no-barriers}
use Rattle.script.specs.declared.Session.{Session}
use Rattle.script.specs.Spoken.{desk_of, answer_of, answer_to, silent, told}
use Rattle.script.specs.Session.{desk, Same_slices, Told, After}

-- ---- the table and the list after a call

unless-of : {A B : Type 0} (f : A → B) (n : ℕ) (x y : A) → f (unless_refused n x y) ≡ unless_refused n (f x) (f y)
unless-of f zero x y = refl
unless-of f (suc n) x y = refl

unless-twice : {A : Type 0} (n : ℕ) (x y : A) → unless_refused n (unless_refused n x y) y ≡ unless_refused n x y
unless-twice zero x y = refl
unless-twice (suc n) x y = refl

pub call-table : (x : Call) (d : Desk) → (do_call x d).desk.table ≡ table_after x (length d.list) 0 d.table
unfolding do_call table_after
call-table x d = unless-of (λ (r : Reply). r.desk.table) (refusal x (length d.list) 0 d.table) _ _
    ∙ unless-twice (refusal x (length d.list) 0 d.table) _ _

pub call-list : (x : Call) (d : Desk) → (do_call x d).desk.list ≡ list_after x d.list 0 d.table
unfolding do_call list_after
call-list x d = unless-of (λ (r : Reply). r.desk.list) (refusal x (length d.list) 0 d.table) _ _
    ∙ unless-twice (refusal x (length d.list) 0 d.table) _ _

-- what carrying request q out leaves and answers
abbrev pub Acted : Request → (t lent : Words) → Written → (t' lent' : Words) → Type 0
Acted q t lent a t' lent' =
    let r = do_request (Ok (Some q)) (desk_of t lent) in
    (a ≡ answer_to q (desk_of t lent)) × ((t' ≡ r.desk.table) × (lent' ≡ r.desk.list))

abbrev Called : Call → (t lent : Words) → Written → (t' lent' : Words) → Type 0
Called x t lent a t' lent' =
    (a ≡ written x (length lent) 0 t) × ((t' ≡ table_after x (length lent) 0 t) × (lent' ≡ list_after x lent 0 t))

pub acted-insertion :
    (q : Request) (t lent : Words) (k r : ℕ) → q ≡ Insertion k r → (a : Written) (t' lent' : Words)
    → Called (insertion 1 k r 0) t lent a t' lent' → Acted q t lent a t' lent'
unfolding answer_to do_request
acted-insertion q t lent k r e a t' lent' h = rw (e, call-table, call-list) h

pub acted-deletion :
    (q : Request) (t lent : Words) (k : ℕ) → q ≡ Deletion k → (a : Written) (t' lent' : Words) → Called (deletion 1 k) t lent a t' lent'
    → Acted q t lent a t' lent'
unfolding answer_to do_request
acted-deletion q t lent k e a t' lent' h = rw (e, call-table, call-list) h

-- ---- what is printed

lines-text : (all os : List Order) → order_lines os ++ done_line (store_count all) (flush_count all) ≡ orders_text all os
unfolding order_lines orders_text
lines-text all [] = refl
lines-text all (o ∷ os) = rw (append_assoc, lines-text all os)

-- the first orders of the list after an accepted call are its own; dock 0 has no barriers
call-read : (x : Call) (lent t : Words) → refusal x (length lent) 0 t ≡ 0
    → take (store_count (orders_of x 0 t) + flush_count (orders_of x 0 t)) (decode (list_with (orders_of x 0 t) lent)) ≡ orders_of x 0 t
call-read x lent t e =
    let u = (accepted-iff x (length lent) 0 t).0 e in
    let counted : store_count (orders_of x 0 t) + flush_count (orders_of x 0 t) ≡ length (orders_of x 0 t) =
    omega (arith, counts-length (orders_of x 0 t), no-barriers x t) in
    rw counted (list-read-back 0 (stores_of x t) lent t u.header (accepted-steps x (length lent) 0 t u.sound e).stores-inside)

-- a number that refuses is a refusal's
numbered-more : (m n : ℕ) → m ≡ suc n → Numbered m → refusal_number (refusal_of (suc n)) ≡ suc n
numbered-more m n e (inl z) = absurd (omega arith)
numbered-more m n e (inr h) = ap (λ (k : ℕ). refusal_number (refusal_of k)) (sym e) ∙ h ∙ e

call-spoken : (x : Call) (d : Desk) (n : ℕ) → refusal x (length d.list) 0 d.table ≡ n
    → spoken (answer_of x d) (list_after x d.list 0 d.table) ≡ (do_call x d).bytes
unfolding spoken written list_after do_call
call-spoken x d zero e = rw (e, call-read x d.list d.table e) (lines-text (orders_of x 0 d.table) (orders_of x 0 d.table))
call-spoken x d (suc n) e = rw (e, numbered-more _ n e (refusal-numbered x (length d.list) 0 d.table))

-- What is printed of a request, from its answer and the list after it, is document 01's text.
pub request-spoken :
    (q : Request) (d : Desk) → spoken (answer_to q d) (do_request (Ok (Some q)) d).desk.list ≡ (do_request (Ok (Some q)) d).bytes
unfolding answer_to do_request spoken
request-spoken (Insertion k r) d = rw call-list (call-spoken (insertion 1 k r 0) d _ refl)
request-spoken (Deletion k) d = rw call-list (call-spoken (deletion 1 k) d _ refl)

-- ---- what the calls leave

pub ended-left : (q : Request) (s : LineState) (x : Asked) → x ≡ request s → x ≡ Ok (Some q)
    → (d : Desk) {a : Written} {t l : Words} {v w : Text}
    → a ≡ answer_to q d → t ≡ (do_request (Ok (Some q)) d).desk.table → l ≡ (do_request (Ok (Some q)) d).desk.list → v.at ≡ 0
    → Puts (spoken a l) v w → reply (bytes_of w) (desk_of t l) ≡ do_request (request s) d
ended-left q s x e f d n g h z p = rw (puts-whole z p, n, g, h, ← e, f, request-spoken q d)

-- a line that asks nothing, and one that is refused
pub asks-nothing : (s : LineState) (x : Asked) (d : Desk) → x ≡ request s → x ≡ Ok None → do_request (request s) d
    ≡ reply (refused_line 0) d
unfolding do_request
asks-nothing s x d e f = rw (← e, f)

pub asks-refused : (s : LineState) (x : Asked) (r : Refusal) (n : ℕ) (d : Desk) → x ≡ request s → x ≡ Err r → n ≡ refusal_number r
    → do_request (request s) d ≡ reply (refused_line n) d
unfolding do_request
asks-refused s x r n d e f m = rw (← e, f, m)

pub refused-left : (n : ℕ) {x : Reply} {d : Desk} {v w : Text} → x ≡ reply (refused_line n) d → v.at ≡ 0 → Puts (refused_line n) v w
    → reply (bytes_of w) d ≡ x
refused-left n e z p = rw (e, puts-whole z p)

-- at the end of the input
module _ (s : LineState) (b : Bool) (e : b ≡ begun s.place) where
  pub finish-line : b ≡ true → (d : Desk) {x : Reply} → x ≡ do_request (request s) d → x ≡ finished print_on (silent s d)
  unfolding finished print_on
  finish-line f d h = rw (← e, f) h

  pub finish-none : b ≡ false → (d : Desk) → reply [] d ≡ finished print_on (silent s d)
  unfolding finished
  finish-none f d = rw (← e, f)

-- the bytes of a piece up to its first line feed
module _ (s : Session) (piece : Bytes) (x : LineRead) (e : x ≡ line_in s.line piece) where
  told-as : {y : Session} → line_done print_on x (reply [] (desk s)) ≡ reading y.line (reply (bytes_of y.text) (desk y)) → Same_slices s y
      → Told s piece (used_of x.end piece) y
  told-as h k =
      let u = line-used s.line piece in
      record {
        read = rw e (line-done print_on s.line (reply [] (desk s)) piece) ∙ h;
        used-within = rw e u.0;
        used-some = rw e u.1;
        slices = k;
      }

  pub part-read : {y : Session} → x.end ≡ None → silent x.line (desk s)
      ≡ reading y.line (reply (bytes_of y.text) (desk y)) → Same_slices s y
      → Told s piece (length piece) y
  unfolding line_done
  part-read {y} g h k = rw g at (told-as {y = y} (rw g h) k)

  pub line-told : {y : Session} (u : ℕ) → x.end ≡ Some u → y.line ≡ begin
      → reply (bytes_of y.text) (desk y) ≡ do_request (request x.line) (desk s) → Same_slices s y → Told s piece u y
  unfolding line_done print_on
  line-told {y} u g f h k = rw g at (told-as {y = y} (rw (g, f, ← h)) k)

-- ---- what was printed before

-- these bytes printed before
abbrev after : Bytes → Reading Reply → Reading Reply
after bs x = reading x.line (reply (bs ++ x.state.bytes) x.state.desk)

byte-after : (bs : Bytes) (x : Reading Reply) (b : ℕ) → read_byte print_on (after bs x) b ≡ after bs (read_byte print_on x b)
unfolding read_byte print_on
byte-after bs x b = go (eqb b 10) refl
  where
    go : (t : Bool) → eqb b 10 ≡ t → read_byte print_on (after bs x) b ≡ after bs (read_byte print_on x b)
    go true e = rw (e, append_assoc)
    go false e = rw e

bytes-after : (bs : Bytes) (x : Reading Reply) (input : Bytes) → read_bytes print_on (after bs x) input
    ≡ after bs (read_bytes print_on x input)
unfolding read_bytes
bytes-after bs x [] = refl
bytes-after bs x (b ∷ input) = rw (byte-after bs x b) (bytes-after bs (read_byte print_on x b) input)

finish-after : (bs : Bytes) (x : Reading Reply) → (finished print_on (after bs x)).bytes ≡ bs ++ (finished print_on x).bytes
unfolding finished print_on
finish-after bs x = go (begun x.line.place) refl
  where
    go : (t : Bool) → begun x.line.place ≡ t → (finished print_on (after bs x)).bytes ≡ bs ++ (finished print_on x).bytes
    go true e = rw (e, append_assoc)
    go false e = rw e

silent-after : (s : LineState) (d : Desk) (bs : Bytes) → reading s (reply bs d) ≡ after bs (silent s d)
silent-after s d bs = ap (λ (cs : Bytes). reading s (reply cs d)) (sym (append-nil bs))

-- ---- a piece read line by line

-- two readings with the same line and desk, whatever was printed
pub record Same (x y : Reading Reply) : Type 0 where
  pub line-same : x.line ≡ y.line
  pub desk-same : x.state.desk ≡ y.state.desk

-- a reading has its own line and desk
pub same-start : (x : Reading Reply) → Same x x
same-start x = record { line-same = refl; desk-same = refl }

-- what is left of a piece, after one line more of it
pub same-line : (s : Session) (rest : Bytes) {used : ℕ} {v : Session} {y : Reading Reply}
    → Told s rest used v → Same (read_bytes print_on (silent s.line (desk s)) rest) y
    → Same (read_bytes print_on (silent v.line (desk v)) (drop used rest)) y
same-line s rest {used} {v} h e =
    let bs = bytes_of v.text in
    let on = read_bytes print_on (silent v.line (desk v)) (drop used rest) in
    let old = silent s.line (desk s) in
    let split : read_bytes print_on old rest ≡ after bs on =
    ap (read_bytes print_on old) (sym (take-append-drop used rest))
    ∙ bytes-append print_on old (take used rest) (drop used rest)
    ∙ ap (λ (x : Reading Reply). read_bytes print_on x (drop used rest)) (h.read ∙ silent-after v.line (desk v) bs)
    ∙ bytes-after bs (silent v.line (desk v)) (drop used rest) in
    record {
      line-same = sym (ap (λ (x : Reading Reply). x.line) split) ∙ e.line-same;
      desk-same = sym (ap (λ (x : Reading Reply). x.state.desk) split) ∙ e.desk-same;
    }

-- sessions over the slices of one session are over the same slices
pub slices-then : {x y z : Session} → Same_slices x y → Same_slices y z → Same_slices x z
slices-then h k =
    record {
      same_table = k.same_table ∙ h.same_table;
      same_list = k.same_list ∙ h.same_list;
      same_buffer = k.same_buffer ∙ h.same_buffer;
    }

-- at its end
pub same-end : (x : Session) (piece rest : Bytes) {v : Session} → length rest ≤ 0
    → Same (read_bytes print_on (silent v.line (desk v)) rest) (read_bytes print_on (silent x.line (desk x)) piece)
    → Same_slices x v → After x piece v
unfolding read_bytes
same-end x piece [] h e k = record { line-is = sym e.line-same; desk-is = sym e.desk-same; slices = k }
same-end x piece (b ∷ rest) h e k = absurd (omega arith)

-- ---- the whole input

told-after : (s : LineState) (d : Desk) (ps : List Bytes) (bs : Bytes)
    → (finished print_on (read_pieces print_on (reading s (reply bs d)) ps)).bytes ≡ bs ++ told s d ps
unfolding read_pieces told
told-after s d [] bs = ap (λ (x : Reading Reply). (finished print_on x).bytes) (silent-after s d bs) ∙ finish-after bs (silent s d)
told-after s d (p ∷ ps) bs =
    let y = read_bytes print_on (silent s d) p in
    let all : Reading Reply → Bytes = λ (x : Reading Reply). (finished print_on (read_pieces print_on x ps)).bytes in
    ap (λ (x : Reading Reply). all (read_bytes print_on x p)) (silent-after s d bs)
    ∙ ap all (bytes-after bs (silent s d) p)
    ∙ told-after y.line y.state.desk ps (bs ++ y.state.bytes)
    ∙ append_assoc bs y.state.bytes (told y.line y.state.desk ps)

-- Each piece's bytes printed by themselves, one after the other, and those of the end, are the printer's.
pub printer-told : (ps : List Bytes) → told begin first_desk ps ≡ printer (joined ps)
printer-told ps = sym (told-after begin first_desk ps []) ∙ printer-read ps
