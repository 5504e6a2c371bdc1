-- What a slice of nodes and a report hold while a salvage gathers.
use Rattle.std.specs.Prelude.{Option, None, Some, ◌≡◌, Bool, true, cond, ◌&&◌, ◌||◌, List, [], ◌∷◌, ◌++◌}
use Rattle.std.specs.Prelude.{ℕ, zero, suc, ◌+◌, ◌-◌, ◌*◌, ◌≤◌, ◌<◌, eqb, length, take, drop}
use Rattle.model.specs.Table.{Words, at}
use Rattle.model.specs.Slots.{Slot, slot}
use Rattle.model.specs.SoundTest.{rising}
use Rattle.model.specs.Refusals.{has_recording}
use Rattle.model.specs.Salvage.{Placed, under_fence, Drop, Gathered, gathered_along}
use Rattle.numbers.specs.Filed.{Filed}
use Rattle.pack.specs.Rows.{pairs_in}
use Rattle.gap.specs.Around.{around}
use Rattle.gather.specs.declared.Tally.{Tally}
use Rattle.gather.specs.declared.Cause.{Cause}
use Rattle.gather.specs.declared.Cause.TheVariants.{OutOfRange, KeyHeld, RecordingHeld}

abbrev pub placed : (place key pointer : ℕ) → Placed
placed i k p = record { place = i; slot = slot k p }

-- a reason as the report has it
abbrev pub cause_number : Cause → ℕ
cause_number OutOfRange = 1
cause_number KeyHeld = 2
cause_number RecordingHeld = 3

-- and 0 for none
abbrev pub number_of : Option Cause → ℕ
number_of None = 0
number_of (Some r) = cause_number r

-- ---- what is gathered so far

-- the first n slots of a report
unfoldable pub drops_in : Words → (n : ℕ) → List Drop
drops_in ws zero = []
drops_in ws (suc n) = drops_in ws n ++ (record { node = at ws (3 * n); place = at ws (3 * n + 1); reason = at ws (3 * n + 2) } ∷ [])

-- the pairs kept, in the words for b of them
abbrev pub pairs_of : Words → (b : ℕ) → Tally → List Slot
pairs_of words b t = around (take (2 * b) words) t.at t.kept

abbrev pub held : Words → (b : ℕ) → (report : Words) → Tally → Gathered
held words b report t = record { kept = pairs_of words b t; dropped = drops_in report t.dropped }

-- with the gap closed
abbrev pub gathered_in : (words report : Words) → Tally → Gathered
gathered_in words report t = record { kept = pairs_in words t.kept; dropped = drops_in report t.dropped }

-- the words after those for b pairs hold these recordings
abbrev pub Recorded : Words → (b : ℕ) → (ℕ → Bool) → Type 0
Recorded words b = Filed (length words - 2 * b) (length words - 2 * b) (drop (2 * b) words)

-- what stands in the words: the pairs kept, whose keys rise, and their recordings
pub record Standing (words : Words) (b : ℕ) (t : Tally) : Type 0 where
  pub below : t.at ≤ t.kept
  pub few : t.kept ≤ b
  pub cells : 2 * b < length words
  pub small : b < 16777216
  pub rise : rising 0 (pairs_of words b t) ≡ true
  pub recorded : Recorded words b (λ (r : ℕ). has_recording r (pairs_of words b t))

-- the pairs stay; the recording r is held with the others, if it is new
pub record Filing (words : Words) (b : ℕ) (t : Tally) (r : ℕ) (new : Bool) (after : Words) : Type 0 where
  pub stay : take (2 * b) after ≡ take (2 * b) words
  pub recorded : Recorded after b (λ (x : ℕ). (new && eqb x r) || has_recording x (pairs_of words b t))

-- room for n slots more in the report
pub record Room (report : Words) (t : Tally) (n : ℕ) : Type 0 where
  pub drops : 3 * (t.kept + t.dropped + n) ≤ length report
  pub few : t.kept + t.dropped + n < 16777216

-- the report's words past what is written stay; at most n slots more were kept or dropped
pub record Kept (report : Words) (t : Tally) (after : Words) (r : Tally) (n : ℕ) : Type 0 where
  pub stay : drop (3 * r.dropped) after ≡ drop (3 * r.dropped) report
  pub sum : r.kept + r.dropped ≤ t.kept + t.dropped + n
  pub more : t.dropped ≤ r.dropped

-- ---- leaves

-- what a slot in use of a node is to a salvage, where before is the pointer before it: collected, or nothing
unfoldable pub met : Words → (sibling before place key pointer : ℕ) → List Placed
met t s b i k p = cond (eqb p b) [] (cond (under_fence t s k) (placed i k p ∷ []) [])

abbrev pub none : Tally
none = record { kept = 0; at = 0; dropped = 0 }

-- the report has room for all slots of these nodes
pub record Along (order report : Words) : Type 0 where
  pub few : length order ≤ 65535
  pub drops : 36 * length order ≤ length report

-- the words have room for the pairs kept, and a cell more
pub record Ready (t order words : Words) (b : ℕ) (report : Words) : Type 0 where
  pub along : Along order report
  pub cells : 2 * b < length words
  pub small : b < 16777216
  pub most : length (gathered_along t order).kept ≤ b
