-- Recordings that are new to a map, and the cells that hold them.
use Rattle.std.specs.Prelude.{◌≡◌, Bool, true, false, ◌≢◌, List, map, ℕ, zero, suc, ◌+◌, ◌*◌, ◌-◌, ◌%◌, eqb, get_or, take, drop, replicate, Ok, Err}
use Rattle.model.specs.Table.{Words}
use Rattle.model.specs.Slots.{Slot, slots_of, recording_of, recording, View}
use Rattle.model.specs.Reached.{flat, kept}
use Rattle.model.specs.SoundTest.{all, elem, distinct}
use Rattle.model.specs.Refusals.{has_recording}
use Rattle.list_laws.specs.Each.{Each}
use Rattle.walk_laws.specs.Chain.{along, chain}
use Rattle.numbers.specs.Cells.{CELLS, TRIES, Outcome, outcome, mixed, next_cell, entered, followed}
use Rattle.numbers.specs.Filed.{Filed}

-- of n cells, m along the path from cell i on: a free one comes before r
unfoldable pub off_from : (n : ℕ) → Words → (r i m : ℕ) → Bool
off_from n cs r i zero = false
off_from n cs r i (suc m) =
    elim (eqb (get_or cs i 0) r) [
      | true ↦ false
      | false ↦ elim (eqb (get_or cs i 0) 0) [ true ↦ true | false ↦ off_from n cs r (next_cell n i) m ]
    ]

unfoldable pub off : Words → ℕ → Bool
off cs r = off_from CELLS cs r (mixed r % CELLS) TRIES

abbrev pub off_pair : Words → Slot → Bool
off_pair cs s = off cs (recording s)

-- the pairs of a tree, leaf by leaf; from a leaf on along the siblings, at most so many leaves
abbrev pub tree_pairs : View → List Slot
tree_pairs v = flat (kept v) (chain v)

abbrev pub pairs_along : View → ℕ → ℕ → List Slot
pairs_along v left leaf = flat (kept v) (along v left leaf)

-- the recordings of the pairs from i on, before j
unfoldable pub recordings_of : (pairs : Words) → (i j : ℕ) → List ℕ
recordings_of pairs i j = map recording (take (j - i) (drop i (slots_of pairs)))

-- the cells hold these numbers: none is 0, none is there twice
pub record Holds (cs : Words) (rs : List ℕ) : Type 0 where
  pub filed : Filed TRIES CELLS cs (λ (r : ℕ). elem r rs)
  pub some : Each (λ (r : ℕ). r ≢ 0) rs
  pub apart : distinct rs ≡ true

-- recordings of which none is there twice and none in the map
pub record New (ps : List Slot) (rs : List ℕ) : Type 0 where
  pub apart : distinct rs ≡ true
  pub absent : Each (λ (r : ℕ). has_recording r ps ≡ false) rs

-- ---- what is answered

-- the recordings of so many pairs from i on entered, from the last to the first
unfoldable pub entered_down : (pairs : Words) → (i count : ℕ) → Words → Outcome
entered_down pairs i zero cs = outcome (Ok tt) cs
entered_down pairs i (suc c) cs = followed (entered TRIES cs (recording_of (get_or pairs (2 * (i + c) + 1) 0))) (entered_down pairs i c)

-- each of them found a cell, and surely none of the tree is among them
abbrev pub clear_of : View → Outcome → Bool
clear_of v o = elim o.answer [ Ok x ↦ all (off_pair o.cells) (tree_pairs v) | Err s ↦ false ]

-- the pairs from i on, before j, are known to have recordings that are new to the tree; else nothing is known of them
unfoldable pub are_new : View → (pairs : Words) → (i j : ℕ) → Bool
are_new v pairs i j = clear_of v (entered_down pairs i (j - i) (replicate CELLS 0))
