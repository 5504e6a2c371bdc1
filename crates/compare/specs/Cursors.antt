-- A place among the pairs of a tree, and the pairs from there on.
use Rattle.std.specs.Prelude.{Bool, false, cond, not, ◌&&◌, List, ◌++◌, ℕ, ◌+◌, ◌-◌, ◌*◌, eqb, leb, get_or}
use Rattle.model.specs.Slots.{Slot, slot, View}
use Rattle.model.specs.Ledger.{leave}
use Rattle.model.specs.Judge.{same_slots}
use Rattle.slots.specs.Gathered.{ways_from}
use Rattle.compare.specs.Along.{pairs_along}
use Rattle.compare.specs.declared.Cursor.{Cursor}

-- the pairs at it: those of its leaf's ways from this one on, then those of the leaves from the next one on, at most so many
unfoldable pub pairs_at : View → Cursor → List Slot
pairs_at v c = ways_from c.ways c.at ++ pairs_along v c.left c.next

-- its leaf has no pair more
unfoldable pub at_end : Cursor → Bool
at_end c = leb c.ways.count c.at

-- the pair at it
abbrev pub pair_at : Cursor → Slot
pair_at c = slot (get_or c.ways.keys c.at 0) (get_or c.ways.pointers c.at 0)

-- it is to go on: its leaf has no pair more and another leaf follows, or the pair at it has key k
unfoldable pub goes_on : ℕ → Cursor → Bool
goes_on k c = cond (at_end c) (not (eqb c.next 0) && not (eqb c.left 0)) (eqb (pair_at c).key k)

-- one pair further
abbrev pub past : Cursor → Cursor
past c = record { ways = c.ways; at = c.at + 1; next = c.next; left = c.left }

-- how far it may still go
abbrev pub distance : Cursor → ℕ
distance c = 14 * c.left + (c.ways.count - c.at)

-- both are at the same pair; the first is at one
unfoldable pub same_pair : Cursor → Cursor → Bool
same_pair a b = cond (at_end b) false (eqb (pair_at a).key (pair_at b).key && eqb (pair_at a).pointer (pair_at b).pointer)

-- the same pairs, but for key k
unfoldable pub same_but : ℕ → List Slot → List Slot → Bool
same_but k ps qs = same_slots (leave k ps) (leave k qs)
