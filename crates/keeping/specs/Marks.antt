-- Slots of the nodes entered, 12 to a node, and which of them are marked.
use Rattle.std.specs.Prelude.{◌≡◌, false, cond, List, [], ◌∷◌, ℕ, zero, suc, ◌+◌, ◌*◌, ◌/◌, ◌%◌, ◌≤◌, length, get_or}
use Rattle.model.specs.Table.{Words, node}
use Rattle.model.specs.Slots.{Slot, slot}
use Rattle.model.specs.Refusals.{has_key, has_recording}
use Rattle.model.specs.Salvage.{Placed, Gathered, gather_slots, collected}
use Rattle.bits.specs.Bits.{has}
use Rattle.keeping.specs.declared.Pair.{Pair}

abbrev pub pair_of : Pair → Slot
pair_of p = slot p.key p.pointer

-- slot x of the nodes entered
unfoldable pub slot_of : (t order : Words) → (x : ℕ) → Slot
slot_of t order x = let n = node t (get_or order (x / 12) 0) in slot (get_or n.slots (2 * (x % 12)) 0) (get_or n.slots (2 * (x % 12) + 1) 0)

-- the marked ones before slot x, the last first
unfoldable pub marked_to : (t order marks : Words) → (x : ℕ) → List Slot
marked_to t order marks zero = []
marked_to t order marks (suc x) = cond (has marks x) (slot_of t order x ∷ marked_to t order marks x) (marked_to t order marks x)

-- two lists of pairs have the same codes and the same recordings
pub record Matches (ps ms : List Slot) : Type 0 where
  pub keys : (k : ℕ) → has_key k ps ≡ has_key k ms
  pub recordings : (r : ℕ) → has_recording r ps ≡ has_recording r ms

-- no slot from x on is marked
abbrev pub Unmarked : (marks : Words) → (x : ℕ) → Type 0
Unmarked marks x = (y : ℕ) → x ≤ y → has marks y ≡ false

-- What was gathered, with xs of node n after it, matches the marks up to slot x and those after it up to slot y; d more are kept.
abbrev pub Goes : (t order marks after : Words) → (x y n : ℕ) → List Placed → (d : ℕ) → Type 0
Goes t order marks after x y n xs d =
    (g : Gathered) → Matches g.kept (marked_to t order marks x)
    → Matches (gather_slots n xs g).kept (marked_to t order after y) × (length (gather_slots n xs g).kept ≡ length g.kept + d)

-- slot x, which has this key and this pointer, was looked at; xs is what is met there
pub record Marked (t order marks after : Words) (x k p : ℕ) (xs : List Placed) (d : ℕ) : Type 0 where
  pub long : length after ≡ length marks
  pub few : d ≤ 1
  pub beyond : Unmarked marks x → Unmarked after (suc x)
  pub goes : Unmarked marks x → slot_of t order x ≡ slot k p → (n : ℕ) → Goes t order marks after x (suc x) n xs d

-- all slots of the node entered at place j were looked at
pub record NodeMarked (t order marks after : Words) (j d : ℕ) : Type 0 where
  pub long : length after ≡ length marks
  pub few : d ≤ 12
  pub beyond : Unmarked marks (12 * j) → Unmarked after (12 * (j + 1))
  pub goes : Unmarked marks (12 * j) → let n = get_or order j 0 in Goes t order marks after (12 * j) (12 * (j + 1)) n (collected t n) d
