-- One slot line of a node, from the node's words, by the slot that the line begins with.
use Rattle.std.specs.Prelude.{◌≡◌, Bool, cond, List, [], ◌∷◌, ℕ, zero, suc, ◌^◌, ◌<◌, take, drop, Option as Answer, Some, None}
use Rattle.std.proofs.Math.Option.{Option, none, some}
use Rattle.model.specs.Table.{Words, at}
use Rattle.model.specs.Slots.{Slot, shown}
use Rattle.model.specs.Shifts.{last_pointer}
use Rattle.slots.specs.Scan.{used_from}

abbrev pub left_in : Words → ℕ
left_in ws = at ws 0

abbrev pub words_in : Words → Words
words_in ws = take 24 (drop 8 ws)

-- the slots in use
abbrev pub slots_in : Words → List Slot
slots_in ws = used_from (words_in ws) 0

-- the pointer before the slot after m slots, of these slots in use, if there are so many
unfoldable pub begun_in : (before m : ℕ) → List Slot → Answer ℕ
begun_in before zero ss = Some before
begun_in before (suc m) [] = None
begun_in before (suc m) (s ∷ ss) = begun_in s.pointer m ss

-- the shown slots on the line
unfoldable pub line_of : Words → (first : ℕ) → List Slot
line_of ws first = shown (last_pointer (left_in ws) (take first (slots_in ws))) (take 4 (drop first (slots_in ws)))

-- each result of a test of keys is that of p
abbrev pub Tests : (ℕ → Bool → Type 0) → (ℕ → Bool) → Type 0
Tests gives p = (k : ℕ) (b : Bool) → k < 2 ^ 64 → gives k b → b ≡ p k

-- the key and the pointer of the first of these slots whose key passes
unfoldable pub first_taken : (ℕ → Bool) → List Slot → Answer (ℕ × ℕ)
first_taken p [] = None
first_taken p (s ∷ ss) = cond (p s.key) (Some (s.key, s.pointer)) (first_taken p ss)

-- a line's number as the code has it
abbrev pub as_option : Option ℕ → Answer ℕ
as_option none = None
as_option (some j) = Some j
