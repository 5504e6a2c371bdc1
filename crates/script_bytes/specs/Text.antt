-- What is printed of an answer, and bytes put into a buffer.
use Rattle.std.specs.Prelude.{◌≡◌, List, [], ◌∷◌, ◌++◌, ℕ, ◌+◌, ◌≤◌, length, take, drop, Ok, Err}
use Rattle.model.specs.Numbers.{refusal_number}
use Rattle.model.specs.Results.{Written}
use Rattle.model.specs.Text.{ascii}
use Rattle.model.specs.Table.{Words}
use Rattle.model.specs.Orders.{Order, decode}
use Rattle.model.specs.Printer.{Bytes, printed, order_text, refused_line}
use Rattle.script_bytes.specs.declared.Text.{Text}

-- ---- an answer's text, from the answer and the list after it

unfoldable pub order_lines : List Order → Bytes
order_lines [] = []
order_lines (o ∷ os) = order_text o ++ order_lines os

abbrev pub done_line : (stores flushes : ℕ) → Bytes
done_line s f = printed (ascii "done") (s ∷ f ∷ [])

-- as many stores and flushes of the list as the answer counts, then these counts (dock 0 has no barriers); or the refusal
unfoldable pub spoken : Written → (list : Words) → Bytes
spoken (Ok c) list = order_lines (take (c.stores + c.flushes) (decode list)) ++ done_line c.stores c.flushes
spoken (Err r) list = refused_line (refusal_number r)

-- ---- a buffer

-- the buffer with these bytes from place i on, all else the same
abbrev pub put_at : Bytes → ℕ → Bytes → Bytes
put_at out i bs = take i out ++ bs ++ drop (i + length bs) out

-- what putting bytes into a buffer leaves: the buffer, and the place after them
pub record Put (out : Bytes) (i : ℕ) (bs : Bytes) (out' : Bytes) (r : ℕ) : Type 0 where
  pub buffer : out' ≡ put_at out i bs
  pub next : r ≡ i + length bs

-- ---- a text under way

-- the bytes that are put
abbrev pub bytes_of : Text → Bytes
bytes_of x = take x.at x.out.now

-- there is room for n bytes more
abbrev pub Room : ℕ → Text → Type 0
Room n x = x.at + n ≤ length x.out.now

-- these bytes are put after those of text x, which leaves y, over the same buffer
pub record Puts (bs : Bytes) (x y : Text) : Type 0 where
  pub put : Put x.out.now x.at bs y.out.now y.at
  pub same_buffer : y.out.ghost_name ≡ x.out.ghost_name
