-- Sentences of request 1, the next code up, each computed where it decides.
use Rattle.std.proofs.Common.{◌≡◌, [], ◌∷◌, refl}
use Rattle.model.specs.declared.Answer.TheVariants.{Found, Absent, Refused}
use Rattle.std.specs.Prelude.{Some, None}
use Rattle.model.specs.Table.{MARK, Words}
use Rattle.model.specs.Slots.{slot}
use Rattle.model.specs.Search.{search, recording_or, next_or, higher_or}
use Rattle.model.specs.Orders.{apply}
use Rattle.model.specs.Writes.{node_words}
use Rattle.model.proofs.Everything.{everything}
use Rattle.model.proofs.Worked.{ten_slots}
use Rattle.model.proofs.Tables.{table_of, ways, one_level, two_levels}
use Rattle.trials.proofs.Unsound.{word, key}

-- two leaves, of which the parent names the first alone; the second has a sibling outside 1 to N, or on another level
abbrev pub sibling_outside : Words
sibling_outside = apply (word 2 1 9 ∷ []) (two_levels (1 ∷ 1 ∷ []) [] [])

abbrev pub sibling_high : Words
sibling_high = apply (word 2 1 3 ∷ []) (two_levels (1 ∷ 1 ∷ []) [] [])

-- a leaf that is its own sibling, N = 1; and two leaves in a ring
abbrev pub own_sibling : Words
own_sibling = apply (word 1 1 1 ∷ []) (one_level 1 [])

abbrev pub ring : Words
ring = apply (word 2 1 1 ∷ []) (two_levels (1 ∷ 1 ∷ []) (ways 2 1) [])

pub record NextUp : Type 0 where
  -- The nearest higher code in the map, or that there is none.
  pub here : (search 1 (one_level 3 []) 5 ≡ Absent (Some 10)) × (search 1 (one_level 3 []) 11 ≡ Absent (Some 20))
  pub none : search 1 (one_level 3 []) 31 ≡ Absent None
  -- It is looked for on along the siblings, past emptied leaves too.
  pub along : search 1 (two_levels (2 ∷ 0 ∷ 0 ∷ 1 ∷ []) (ways 2 3) []) 25 ≡ Absent (Some 610)
  -- MARK is a key like others.
  pub largest : search 1 (table_of 1 (node_words MARK 0 0 0 (slot MARK 7 ∷ []) ∷ [])) 5 ≡ Absent (Some MARK)
  -- The first one by its place in the leaf, and only below its own leaf's sibling's fence.
  pub by-place : search 1 (apply (key 1 0 30 ∷ []) (one_level 2 [])) 5 ≡ Absent (Some 30)
  pub below-fence : search 1 (apply (key 1 0 250 ∷ []) (two_levels (1 ∷ 1 ∷ []) (ways 2 1) [])) 5 ≡ Absent (Some 210)
  -- A leaf on the way fails the search's tests, the sibling of the search's last one included: a found key is answered all the same.
  pub outside : (search 1 sibling_outside 205 ≡ Refused 3) × (search 1 sibling_outside 210 ≡ Found 121 0)
  pub other-level : (search 1 sibling_high 205 ≡ Refused 3) × (search 1 sibling_high 210 ≡ Found 121 0)
  -- More than N leaves would be entered, repeats counted.
  pub entered-twice : (search 1 own_sibling 11 ≡ Refused 3) × (search 1 own_sibling 10 ≡ Found 101 0)
  pub round : search 1 ring 500 ≡ Refused 3
  -- The lent words: absent puts the key and 1, or 0 alone; found and refused put neither.
  pub words-key : (next_or (search 1 (one_level 3 []) 5) 8 ≡ 10) × (higher_or (search 1 (one_level 3 []) 5) 8 ≡ 1)
  pub words-none : (next_or (search 1 (one_level 3 []) 31) 8 ≡ 8) × (higher_or (search 1 (one_level 3 []) 31) 8 ≡ 0)
  pub words-found : (next_or (search 1 (one_level 3 []) 10) 8 ≡ 8) × (higher_or (search 1 (one_level 3 []) 10) 8 ≡ 8)
  pub words-refused : (next_or (search 1 ring 500) 8 ≡ 8)
      × ((higher_or (search 1 ring 500) 8 ≡ 8) × (recording_or (search 1 ring 500) 8 ≡ 8))

pub next-up : NextUp
unfolding everything ten_slots
next-up =
    record {
      here = (refl, refl);
      none = refl;
      along = refl;
      largest = refl;
      by-place = refl;
      below-fence = refl;
      outside = (refl, refl);
      other-level = (refl, refl);
      entered-twice = (refl, refl);
      round = refl;
      words-key = (refl, refl);
      words-none = (refl, refl);
      words-found = (refl, refl);
      words-refused = (refl, (refl, refl));
    }
