-- The ways from a node, one slot at a time; and a stack of nodes, each with the way to look at next.
use Rattle.std.specs.Prelude.{true, false, List, [], ◌∷◌, ◌++◌, map, ℕ, zero, suc, pred, leb, get_or, drop}
use Rattle.model.specs.Table.{Words, node}
use Rattle.model.specs.Slots.{Slot, slot, node_view, slots_of, in_use}
use Rattle.model.specs.Reached.{filter, flat}
use Rattle.model.specs.Salvage.{Placed, Meeting, meet, shown_at, in_reach, meetings}

module _ (t : Words) (n : ℕ) where
  abbrev pub slot_at : ℕ → Slot
  slot_at j = get_or (slots_of (node t n).slots) j (slot 0 0)

  abbrev pub placed_at : ℕ → Placed
  placed_at j = record { place = j; slot = slot_at j }

  -- the pointer before slot j
  abbrev pub before : ℕ → ℕ
  before zero = (node_view t n).left
  before (suc j) = (slot_at j).pointer

  -- the slots followed or collected from place j on
  unfoldable pub slots_from : ℕ → List Placed
  slots_from j = filter (in_reach t n) (shown_at (before j) j (in_use (drop j (slots_of (node t n).slots))))

  -- by these slots to the children, then the sibling
  abbrev pub onward : List Placed → List Meeting
  onward xs = map (λ (x : Placed). meet x.slot.pointer (pred (node_view t n).level)) xs ++ (meet (node_view t n).sibling (node_view t n).level ∷ [])

  -- the ways of a node: 0 its left child, 1 to 12 its slots, 13 its sibling, 14 none; those from way w on
  unfoldable pub ways_from : ℕ → List Meeting
  ways_from zero = meetings t n
  ways_from (suc j) = elim (leb j 12) [ true ↦ onward (slots_from j) | false ↦ [] ]

-- a node on the stack, and the way to look at next
pub record Frame : Type 0 where
  pub node : ℕ
  pub way : ℕ

abbrev pub frame : ℕ → ℕ → Frame
frame n w = record { node = n; way = w }

-- the meetings that a stack stands for, the top first
unfoldable pub todo_of : Words → List Frame → List Meeting
todo_of t fs = flat (λ (f : Frame). ways_from t f.node f.way) fs
