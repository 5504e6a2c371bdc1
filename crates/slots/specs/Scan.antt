-- A node's slots from one of them on, and what one slot in use does to a way down and to a count.
use Rattle.std.specs.Prelude.{Bool, cond, not, ◌&&◌, ◌||◌, List, ℕ, ◌-◌, ◌*◌, eqb, leb, ltb, drop, get_or}
use Rattle.model.specs.Table.{Words}
use Rattle.model.specs.Slots.{Slot, slots_of, in_use, shown}
use Rattle.model.specs.Reached.{filter}

-- the slots in use among those of a node's slot words from slot i on
abbrev pub used_from : Words → ℕ → List Slot
used_from ws i = in_use (drop i (slots_of ws))

-- all slots in use
unfoldable pub in_use_of : Words → List Slot
in_use_of ws = used_from ws 0

-- the pointer before place p of slot words
unfoldable pub pointer_before : (left : ℕ) → Words → ℕ → ℕ
pointer_before left ws p = cond (eqb p 0) left (get_or ws (2 * p - 1) 0)

-- the shown ones from slot i on, where p is the pointer before it
abbrev pub shown_from : ℕ → Words → ℕ → List Slot
shown_from p ws i = shown p (used_from ws i)

-- a key is below the sibling's fence, the bound; with sibling 0 every key is
unfoldable pub keeps : (sibling bound key : ℕ) → Bool
keeps sibling bound key = eqb sibling 0 || ltb key bound

abbrev pub is_kept : (sibling bound : ℕ) → Slot → Bool
is_kept sibling bound s = keeps sibling bound s.key

-- the kept ones among shown slots
abbrev pub kept_of : (sibling bound : ℕ) → List Slot → List Slot
kept_of sibling bound ss = filter (is_kept sibling bound) ss

-- ---- a slot (k, p) in use, with the pointer before it

-- it is shown and kept
unfoldable pub is_way : (sibling bound before k p : ℕ) → Bool
is_way sibling bound before k p = not (eqb p before) && keeps sibling bound k

-- the way down after it, with the way so far
abbrev pub way_after : (way before k p key : ℕ) → ℕ
way_after way before k p key = cond (eqb p before) way (cond (leb k key) p way)

-- the pointer of the first shown one with the key, after it, with that so far; 0 is none
abbrev pub held_after : (held before k p key : ℕ) → ℕ
held_after held before k p key = cond (eqb p before) held (cond (eqb k key) (cond (eqb held 0) p held) held)
