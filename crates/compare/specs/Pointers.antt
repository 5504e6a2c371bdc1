-- The pointer of one key: the map with another one, and whether a map is the old or the new one.
use Rattle.std.specs.Prelude.{Bool, ◌&&◌, ◌||◌, List, ℕ, Option, Some, None}
use Rattle.model.specs.Slots.{Slot}
use Rattle.model.specs.Search.{first_with}
use Rattle.model.specs.Ledger.{enter, leave}
use Rattle.model.specs.Judge.{same_slots}
use Rattle.slots.specs.Held.{held_by}

-- the pointer of key k, if it is there
abbrev pub held : ℕ → List Slot → Option ℕ
held k ps = held_by (first_with k ps)

-- the pairs with this pointer for key k, or without it
unfoldable pub with_pointer : (k : ℕ) → Option ℕ → List Slot → List Slot
with_pointer k None ps = leave k ps
with_pointer k (Some x) ps = enter k x (leave k ps)

-- these pairs are the old ones or, if they are to change, those with the new pointer
unfoldable pub old_or_new : (own : Bool) → (k : ℕ) → (x : Option ℕ) → (old ps : List Slot) → Bool
old_or_new own k x old ps = same_slots ps old || (own && same_slots ps (with_pointer k x old))
