-- Scale 2, "Packing as a call": a table filled from pairs in rising key order, by the packing of request 5.
use Rattle.std.specs.Prelude.{Bool, true, not, ◌&&◌, List, [], ◌∷◌, ℕ, eqb, ltb, length, Ok}
use Rattle.model.specs.Results.{Outcome, refused_with}
use Rattle.model.specs.Table.{Words, nodes_for, make_number}
use Rattle.model.specs.Slots.{Slot, slots_of}
use Rattle.model.specs.Reached.{Maps, unless_lacking}
use Rattle.model.specs.SoundTest.{rising, recordings_ok}
use Rattle.model.specs.Refusals.{test, first_number, unless_refused}
use Rattle.model.specs.Packing.{of_second, packed_both, packed_table}

-- The pairs rise strictly by key, each recording and class is in range, and no recording is there twice.
unfoldable pub pairs_ok : List Slot → Bool
pairs_ok ps = rising 0 ps && recordings_ok ps

-- The pairs of a slice and, for two collections, of a second one. An odd last word is half a pair and is none.
unfoldable pub maps_in : (n : ℕ) → (pairs loans : Words) → Maps
maps_in n pairs loans = record { one = slots_of pairs; two = unless_lacking (eqb n 1) (slots_of loans) }

-- Each collection is judged by itself: a recording may be in both.
unfoldable pub maps_ok : Maps → Bool
maps_ok m = pairs_ok m.one && of_second true pairs_ok m.two

-- the packing needs more nodes than a slice of this length has
abbrev pub outgrown : (len : ℕ) → Maps → Bool
outgrown len m = ltb (nodes_for len) (packed_both m)

-- A table t of n collections: 2 and 17 as in making it; then 10, the packing needs more than N nodes; then 25, by the pairs; else 0.
unfoldable pub pack_number : (n : ℕ) → (pairs loans : Words) → Words → ℕ
pack_number n pairs loans t =
    let m = maps_in n pairs loans in
    unless_refused (make_number n t) (first_number (test (outgrown (length t) m) 10 ∷ test (not (maps_ok m)) 25 ∷ [])) (make_number n t)

-- what it answers, and the words that it leaves: the whole table is written, whatever stood there
unfoldable pub packing : (n : ℕ) → (pairs loans : Words) → Words → Outcome
packing n pairs loans t = unless_refused (pack_number n pairs loans t) (Ok tt) (refused_with (pack_number n pairs loans t))

unfoldable pub pack_out : (n : ℕ) → (pairs loans : Words) → Words → Words
pack_out n pairs loans t = unless_refused (pack_number n pairs loans t) (packed_table (nodes_for (length t)) (maps_in n pairs loans)) t
