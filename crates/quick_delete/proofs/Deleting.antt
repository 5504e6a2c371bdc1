-- The stores of a quick deletion, one part after the other, and the tests of the leaf before a freed one.
use Rattle.std.proofs.Common.{◌≡◌, ℕ, ◌<◌, ◌≤◌, Bool, true, false, ltb, List, length, take, sym, ap, ◌∙◌, append-nil, arith, le-ltb, lt-ltb}
use Rattle.model.specs.declared.Node.{Node}
use Rattle.model.specs.Table.{Words, nodes, in_range, node}
use Rattle.model.specs.Slots.{Slot, node_view, view}
use Rattle.model.specs.Orders.{Store}
use Rattle.model.specs.Shifts.{last_pointer, place_of}
use Rattle.model.specs.Writes.{shift_out_at, free_stores, child_before}
use Rattle.list_laws.proofs.Slots.{place-length}
use Rattle.node.specs.Word.{word_of}
use Rattle.node.proofs.WordLaws.{word-fence}
use Rattle.slots.specs.Scan.{in_use_of}
use Rattle.orders.specs.declared.Writer.{Writer}
use Rattle.orders.specs.Desk.{of, Makes, Room}
use Rattle.orders.proofs.Rooms.{room-first}
use Rattle.orders.proofs.Rest.{stored-as}
use Rattle.shift.proofs.AtNode.{shown-read}
use Rattle.write.proofs.Parts.{part-table, part-room, part-stored}
use Rattle.quick_delete.specs.declared.Found.{Found}
use Rattle.quick_delete.specs.Finds.{neighbour_there, taken_out, Freeable, Takes}

-- ---- the leaf before, by what was read: y is node p

module _ (t : Words) (p x : ℕ) (y : Node) (q : y ≡ node t p) (z : (node_view t p).hidden ≡ 0) (f at : ℕ) (ef : f ≡ word_of t x 3)
    (ea : at ≡ place_of f (in_use_of y.slots)) where
  slots-are : (node_view t p).shown ≡ in_use_of y.slots
  slots-are = shown-read t p y q z

  place-is : place_of (node_view t x).fence (node_view t p).shown ≡ at
  place-is = ap (λ (ss : List Slot). place_of (node_view t x).fence ss) slots-are
      ∙ ap (λ (n : ℕ). place_of n (in_use_of y.slots)) (sym (ef ∙ word-fence t x)) ∙ sym ea

  pub at-in : at ≤ length (in_use_of y.slots)
  at-in = omega (arith, ea, place-length f (in_use_of y.slots))

  before-is : last_pointer y.left (take at (in_use_of y.slots)) ≡ child_before (view t) p x
  unfolding child_before
  before-is = rw (slots-are, ← place-is, slots-are, q)

  module _ (n : ℕ) (en : n ≡ length (in_use_of y.slots)) where
    pub slot-missing : n ≤ at → ltb at n ≡ neighbour_there t p x
    unfolding neighbour_there
    slot-missing h = rw (place-is, slots-are, ← en, le-ltb at n h)

    pub slot-there : at < n → (b : ℕ) (r : Bool) → b ≡ last_pointer y.left (take at (in_use_of y.slots)) → r ≡ in_range (nodes t) b
        → r ≡ neighbour_there t p x
    unfolding neighbour_there
    slot-there h b r eb er = er ∙ rw (place-is, slots-are, ← en, lt-ltb at n h, eb, before-is)

-- ---- the stores

module _ (w : Writer) {f : Found} {k : ℕ} (h : Takes w.table.now f k) (r : Room (taken_out w.table.now f k) (of w)) where
  pub out-room : Room (shift_out_at w.table.now f.leaf k) (of w)
  unfolding taken_out
  out-room = room-first _ _ _ r

  -- the leaf stays
  pub stays-stored : f.frees ≡ false → {v : Writer} → Makes (shift_out_at w.table.now f.leaf k) w v → Makes (taken_out w.table.now f k) w v
  unfolding taken_out
  stays-stored z g = stored-as (rw z (append-nil (shift_out_at w.table.now f.leaf k))) g

  -- it is freed, after the shift out
  module _ (z : f.frees ≡ true) {v : Writer} (g : Makes (shift_out_at w.table.now f.leaf k) w v) where
    abbrev rest : Words → List Store
    rest u = free_stores u f.parent f.leaf

    pub free-there : Freeable v.table.now f.parent f.leaf
    free-there = rw (part-table (shift_out_at w.table.now f.leaf k) rest g) (h.free z)

    pub free-room : Room (free_stores v.table.now f.parent f.leaf) (of v)
    unfolding taken_out
    free-room = part-room (shift_out_at w.table.now f.leaf k) rest g (rw z at r)

    pub free-stored : {u : Writer} → Makes (free_stores v.table.now f.parent f.leaf) v u → Makes (taken_out w.table.now f k) w u
    unfolding taken_out
    free-stored m = rw z (part-stored (shift_out_at w.table.now f.leaf k) rest g m)
