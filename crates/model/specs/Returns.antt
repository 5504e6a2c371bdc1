-- Document 02, request 10, for a host that copies the nodes it passes and compares: what a table answers at one moment of a call, and that no
-- word comes back to a value that it had and lost.
use Rattle.std.specs.Prelude.{◌≡◌, ◌⊎◌, false, ℕ, ◌+◌, ◌≤◌, ◌<◌, length, take}
use Rattle.model.specs.declared.Answer.TheVariants.{Refused}
use Rattle.model.specs.Table.{Words, at, node_start, no_collection}
use Rattle.model.specs.Slots.{node_view, view_of}
use Rattle.model.specs.Search.{search}
use Rattle.model.specs.Sound.{Reached, Settled}
use Rattle.model.specs.Orders.{carry}
use Rattle.model.specs.Writes.{Call}
use Rattle.model.specs.Refusals.{refusal, orders_of, table_after}

-- the table at moment a of a call: its first a orders are carried out
abbrev pub table_at : Call → (dock : ℕ) → Words → (a : ℕ) → Words
table_at x dock t a = carry (take a (orders_of x dock t)) t

-- At every moment of an accepted call on a sound table, leftovers and repairs included, all searches of all collections answer as before the
-- call, or all as after it; the neighbour of request 1 included.
abbrev pub MomentRight : Type 0
MomentRight =
    (x : Call) (words dock : ℕ) (t : Words) → refusal x words dock t ≡ 0 → (b : ℕ)
    → ((n k : ℕ) → search n (table_at x dock t b) k ≡ search n t k)
    ⊎ ((n k : ℕ) → search n (table_at x dock t b) k ≡ search n (table_after x words dock t) k)

-- word w is one of node m's 32
abbrev pub OfNode : (m w : ℕ) → Type 0
OfNode m w = (node_start m ≤ w) × (w < node_start m + 32)

-- word w is of the header, or of a node that is reached from the root of a collection
abbrev pub InSight : Words → (w : ℕ) → Type 0
InSight t w = (w < 8) ⊎ ((n : ℕ) × (m : ℕ) × (no_collection n t ≡ false) × Reached (view_of n t) m × OfNode m w)

-- In the list of an accepted call on a settled table a word never returns to a value that it lost: a word that was in sight at a moment z up to
-- a, and has at moment c the value that it has at a, has it at each moment b between. (Stale words of a fresh node may come back before it is
-- linked. A leaf that is freed is in sight no more; a reader that came to it earlier reads on.)
abbrev pub NoReturn : Type 0
NoReturn =
    (x : Call) (words dock : ℕ) (t : Words) → Settled t → refusal x words dock t ≡ 0
    → (z a b c w : ℕ) → z ≤ a → a ≤ b → b ≤ c → InSight (table_at x dock t z) w
    → at (table_at x dock t a) w ≡ at (table_at x dock t c) w → at (table_at x dock t b) w ≡ at (table_at x dock t a) w

-- ---- a host that copies

-- Word w was read twice, up to moment b and from b on, each time as u has it; it was in sight at some moment up to the first reading.
pub record ReadTwice (x : Call) (dock : ℕ) (t : Words) (b : ℕ) (u : Words) (w : ℕ) : Type 0 where
  pub sighted : ℕ
  pub first : ℕ
  pub second : ℕ
  pub early : sighted ≤ first
  pub before : first ≤ b
  pub after : b ≤ second
  pub in-sight : InSight (table_at x dock t sighted) w
  pub first-value : at (table_at x dock t first) w ≡ at u w
  pub second-value : at (table_at x dock t second) w ≡ at u w

-- The copy u, as long as the table, has the header and some nodes, each word read twice around one moment b of an accepted call on a settled
-- table; every other node is on a level that no search passes. Then all searches of u answer as before the call, or all as after it, but for
-- those that are refused with 3.
abbrev pub CopyRight : Type 0
CopyRight =
    (x : Call) (words dock : ℕ) (t u : Words) → Settled t → refusal x words dock t ≡ 0 → length u ≡ length t → (b : ℕ)
    → ((w : ℕ) → w < 8 → ReadTwice x dock t b u w)
    → ((m : ℕ) → ((w : ℕ) → OfNode m w → ReadTwice x dock t b u w) ⊎ (15 < (node_view u m).level))
    → ((n k : ℕ) → (search n u k ≡ search n t k) ⊎ (search n u k ≡ Refused 3))
    ⊎ ((n k : ℕ) → (search n u k ≡ search n (table_after x words dock t) k) ⊎ (search n u k ≡ Refused 3))
