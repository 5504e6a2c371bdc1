-- Document 01, "Search": a listing of the map's pairs in a range of keys.
use Rattle.std.specs.Prelude.{cond, ◌&&◌, List, ◌++◌, ℕ, ◌*◌, ◌/◌, eqb, leb, ltb, length, take, drop, Ok, Err}
use Rattle.model.specs.Results.{Listed, refused_with, page_with}
use Rattle.model.specs.Table.{Words, header_ok, no_collection}
use Rattle.model.specs.Slots.{Slot, slot_words}
use Rattle.model.specs.Reached.{filter, map_of}
use Rattle.model.specs.SoundTest.{sound}

-- the map's pairs in the range, rising; lowest above highest gives none
unfoldable pub in_range_of : ℕ → ℕ → List Slot → List Slot
in_range_of low high ps = filter (λ (s : Slot). leb low s.key && leb s.key high) ps

-- those of which whole pairs fit into a slice of this length
abbrev pub fitting : ℕ → List Slot → List Slot
fitting words ps = take (words / 2) ps

-- the number of pairs written and whether more were left, where ps are the pairs in the range
unfoldable pub listed : List Slot → ℕ → Listed
listed ps words = page_with (length (fitting words ps)) (ltb (length (fitting words ps)) (length ps))

-- the slice then: the pairs written; other words stay
unfoldable pub listed_words : List Slot → Words → Words
listed_words ps out = slot_words (fitting (length out) ps) ++ drop (2 * length (fitting (length out) ps)) out

-- What a listing refuses with: 2, then 17, then 4; else 0.
unfoldable pub list_number : (n : ℕ) → Words → ℕ
list_number n t = cond (header_ok t) (cond (no_collection n t) 17 (cond (sound t) 0 4)) 2

-- the listing of collection n, and the slice then; one that is refused leaves the slice
unfoldable pub list : (n : ℕ) → Words → (low high : ℕ) → Words → Listed
list n t low high out =
    cond (eqb (list_number n t) 0) (listed (in_range_of low high (map_of n t)) (length out)) (refused_with (list_number n t))

unfoldable pub list_out : (n : ℕ) → Words → (low high : ℕ) → Words → Words
list_out n t low high out = cond (eqb (list_number n t) 0) (listed_words (in_range_of low high (map_of n t)) out) out

-- the count, and 1 where more were left, 0 where not, that lent words then hold; they stay where there is none
abbrev pub count_or : Listed → ℕ → ℕ
count_or (Ok p) old = p.count
count_or (Err r) old = old

abbrev pub more_or : Listed → ℕ → ℕ
more_or (Ok p) old = cond p.more 1 0
more_or (Err r) old = old
