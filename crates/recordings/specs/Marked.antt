-- The leaves among marked nodes, by their numbers, and what is in them.
use Rattle.std.specs.Prelude.{◌≡◌, Bool, false, cond, ◌&&◌, List, [], map, ℕ, ◌+◌, ◌-◌, ◌≤◌, ◌<◌, eqb, take, drop, Option, None, Some}
use Rattle.model.specs.Table.{Words}
use Rattle.model.specs.Slots.{Slot, recording, View}
use Rattle.model.specs.Reached.{flat, kept}
use Rattle.model.specs.Writes.{numbers}
use Rattle.slots.specs.declared.Ways.{Ways}
use Rattle.slots.specs.Scan.{shown_from, kept_of}
use Rattle.bits.specs.Bits.{has}
use Rattle.recordings.specs.declared.Leaf.{Leaf}
use Rattle.recordings.specs.declared.Marks.{Marks}

-- words for a bit of each node
abbrev pub MARKS : ℕ
MARKS = 1024

-- node n is the one
abbrev pub is_one : Option ℕ → (n : ℕ) → Bool
is_one None n = false
is_one (Some x) n = eqb x n

-- the numbers from m down, so many, are not marked
abbrev pub NoneOf : (marks : Words) → (m count : ℕ) → Type 0
NoneOf marks m count = (i : ℕ) → i ≤ m → m < i + count → has marks i ≡ false

-- of the nodes up to n none above last is marked
abbrev pub LastMarked : (n : ℕ) → (marks : Words) → (last : ℕ) → Type 0
LastMarked n marks last = (last ≤ n) × ((i : ℕ) → last < i → i ≤ n → has marks i ≡ false)

-- node n is marked and a leaf
abbrev pub is_leaf : View → Marks → (n : ℕ) → Bool
is_leaf v marks n = has marks.bits n && eqb (v.node n).level 0

-- the slots of node n, if it is marked and a leaf: those shown, of the one node the kept ones
unfoldable pub own : View → Marks → (n : ℕ) → List Slot
own v marks n = cond (is_leaf v marks n) (cond (is_one marks.uncut n) (kept v n) (v.node n).shown) []

-- of the nodes from n on, so many; of all
abbrev pub own_from : View → Marks → (n count : ℕ) → List Slot
own_from v marks n count = flat (own v marks) (numbers n count)

unfoldable pub marked_pairs : View → Marks → List Slot
marked_pairs v marks = own_from v marks 1 v.nodes

-- their recording numbers
abbrev pub own_numbers : View → Marks → (n count : ℕ) → List ℕ
own_numbers v marks n count = map recording (own_from v marks n count)

abbrev pub marked_numbers : View → Marks → List ℕ
marked_numbers v marks = map recording (marked_pairs v marks)

-- the kept slots of a leaf
abbrev pub kept_in : Leaf → List Slot
kept_in x = kept_of x.node.sibling x.bound (shown_from x.node.left x.node.slots 0)

-- the pointers of the ways after the first; none of none
abbrev pub rest_of : Option Ways → List ℕ
rest_of None = []
rest_of (Some w) = take (w.count - 1) (drop 1 w.pointers)
