-- Stores to a node of the table that was read before the first of them.
use Rattle.std.specs.Prelude.{◌≡◌, cond, List, map, ℕ, suc, ◌+◌, ◌*◌, eqb, get_or, take, drop}
use Rattle.model.specs.declared.Node.{Node}
use Rattle.model.specs.Table.{MARK, Words, node_start, node}
use Rattle.model.specs.Slots.{Slot, slot}
use Rattle.model.specs.Orders.{Store, put}
use Rattle.model.specs.Shifts.{SlotStore, key_to, pointer_to, move_up, move_down, shift_in, shift_out, close, place_of, last_pointer}
use Rattle.model.specs.Writes.{node_words}
use Rattle.slots.specs.Scan.{in_use_of}
use Rattle.shift.specs.declared.Opened.{Opened}
use Rattle.shift.specs.declared.Place.{Place}

-- what was read is node n of the table
pub record Opens (t : Words) (n : ℕ) (o : Opened) : Type 0 where
  pub start_is : o.start ≡ node_start n
  pub node_is : o.node ≡ node t n

-- the slots in use that were read
abbrev pub held : Opened → List Slot
held o = in_use_of o.node.slots

-- the place of key k
pub record PlaceOf (o : Opened) (k : ℕ) (p : Place) : Type 0 where
  pub at_is : p.at ≡ place_of k (held o)
  pub before_is : p.before ≡ last_pointer o.node.left (take p.at (held o))

-- a store to a slot of the node that begins at word w
abbrev pub in_from : ℕ → SlotStore → Store
in_from w (key_to i x) = put (w + (8 + 2 * i)) x
in_from w (pointer_to i x) = put (w + (9 + 2 * i)) x

-- the moves that make and close the gap at place p
abbrev pub moves_up : Opened → (p : ℕ) → List Store
moves_up o p = map (in_from o.start) (move_up p (drop p (held o)))

abbrev pub moves_down : Opened → (p : ℕ) → List Store
moves_down o p = map (in_from o.start) (move_down p (drop (suc p) (held o)))

-- ---- the shifts

-- (k, x) in at its place
unfoldable pub slot_in : Opened → (k x : ℕ) → List Store
slot_in o k x = map (in_from o.start) (shift_in o.node.left (held o) (place_of k (held o)) k x)

-- the slot of key k out
unfoldable pub slot_out : Opened → (k : ℕ) → List Store
slot_out o k = map (in_from o.start) (shift_out o.node.left (held o) (place_of k (held o)))

-- the gap at place p closed
unfoldable pub gap_closed : Opened → (p : ℕ) → List Store
gap_closed o p = map (in_from o.start) (close (held o) p)

-- ---- split and new root

-- slot 5 of the record of a node
abbrev pub middle_of : Node → Slot
middle_of n = get_or (in_use_of n.slots) 5 (slot 0 0)

-- the 32 words of B, where A was read as n
unfoldable pub upper_words : Node → Words
upper_words n =
    cond (eqb n.level 0)
    (node_words MARK n.sibling n.level (middle_of n).key (drop 5 (in_use_of n.slots)))
    (node_words (middle_of n).pointer n.sibling n.level (middle_of n).key (drop 6 (in_use_of n.slots)))
