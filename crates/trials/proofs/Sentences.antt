-- Sentences of document 01 that neither a worked line nor a trial of a write shows, each computed where it decides.
use Rattle.std.proofs.Common.{◌≡◌, ℕ, suc, ◌+◌, true, false, List, [], ◌∷◌, ◌++◌, set, replicate, refl}
use Rattle.model.specs.Results.{Printed, refused_with}
use Rattle.model.specs.declared.Answer.TheVariants.{Found, Refused}
use Rattle.model.specs.Codes.{print}
use Rattle.model.specs.Table.{MARK, Words, table_length, length_ok, empty}
use Rattle.model.specs.Slots.{pointer_of}
use Rattle.model.specs.Search.{search, recording_or}
use Rattle.model.specs.SoundTest.{sound}
use Rattle.model.specs.Listing.{list, list_out}
use Rattle.model.specs.Orders.{Order, put, store, flush, apply, encode, carry_number, carried_out}
use Rattle.model.specs.Shifts.{pointer_word}
use Rattle.model.specs.Writes.{insertion, fresh}
use Rattle.model.specs.Refusals.{first_number, tests_from18, too_high}
use Rattle.model.proofs.Everything.{everything}
use Rattle.model.proofs.Worked.{ten_slots}
use Rattle.model.proofs.Tables.{table_of, leaf_of, stale, one_level}
use Rattle.trials.proofs.Unsound.{chain_from, chain}

-- what printing answers for a key that no code has
abbrev pub no_code : Printed
no_code = refused_with 1

-- two orders inside a table of 40 words, and one outside
abbrev pub three_orders : List Order
three_orders = store (put 16 5) ∷ flush 2 ∷ store (put 40 6) ∷ []

-- a leaf with c keys and n full nodes above it, the last one the root. It is not sound: 11 looks at the path alone.
abbrev pub full_path : (c n : ℕ) → Words
full_path c n = table_of (suc n) (leaf_of 1 0 c ∷ chain_from (ten_slots 11 1) 2 n)

-- a leaf with a class; one with a recording number and classes that there are not
abbrev pub classed : Words
classed = apply (put (pointer_word 1 0) (pointer_of 101 2) ∷ []) (one_level 2 [])

abbrev pub strange : Words
strange = apply (put (pointer_word 1 0) (pointer_of 0 255) ∷ put (pointer_word 1 1) (pointer_of 102 3) ∷ []) (one_level 2 [])

pub record Sentences : Type 0 where
  -- A key that no code has is refused: past the last code, also where its last digits spell one.
  pub past-last-code : (print (604661760000000 + 172627201912345) ≡ no_code) × (print MARK ≡ no_code)
  -- N is from 1 to 65,535.
  pub most-nodes : (length_ok (table_length 65535) ≡ true) × (length_ok (table_length 65536) ≡ false)
  pub fewest-nodes : length_ok (table_length 0) ≡ false
  -- A search takes a root on level 15, and refuses one on level 16 with 3; an absent key leaves the lent word.
  pub highest-root : (search 1 chain 10 ≡ Found 101 0) × (search 1 (apply (put 1 17 ∷ []) chain) 10 ≡ Refused 3)
  pub absent-stays : recording_or (search 1 (one_level 1 []) 11) 5 ≡ 5
  -- On a table that is not sound a search answers what stands there: a recording 0, a class above 2.
  pub as-it-stands : (sound strange ≡ false) × (search 1 strange 10 ≡ Found 0 255) × (search 1 strange 20 ≡ Found 102 3)
  -- A listing's second word is the whole pointer.
  pub whole-pointer : list_out 1 classed 0 MARK (replicate 4 0) ≡ 10 ∷ pointer_of 101 2 ∷ 20 ∷ 102 ∷ []
  -- A listing refuses with 2 before 4.
  pub listing-two : list 1 (apply (put 3 1 ∷ put 12 1 ∷ []) (empty 1)) 0 MARK [] ≡ refused_with 2
  pub listing-four : list 1 (apply (put 12 1 ∷ []) (empty 1)) 0 MARK [] ≡ refused_with 4
  -- Carry-out applies the first c orders, and looks at no other; c above half the list's length, rounded down, is refused with 13.
  pub first-two : (carry_number 2 (encode three_orders) (empty 1) ≡ 0)
      × (carried_out 2 (encode three_orders) (empty 1) ≡ set (empty 1) 16 5)
  pub all-three : (carry_number 3 (encode three_orders) (empty 1) ≡ 13) × (carried_out 3 (encode three_orders) (empty 1) ≡ empty 1)
  pub rounded-down : (carry_number 2 (16 ∷ 5 ∷ MARK ∷ 2 ∷ 16 ∷ []) (empty 1) ≡ 0)
      × (carry_number 3 (16 ∷ 5 ∷ MARK ∷ 2 ∷ 16 ∷ []) (empty 1) ≡ 13)
  -- A fresh node is the first unreachable one after A, not one before it; going round from N to 1; 0 for none.
  pub fresh-after : fresh (table_of 2 (stale 1 ++ (leaf_of 1 0 1 ∷ stale 2))) 2 ≡ 3
  pub fresh-round : fresh (table_of 3 (stale 2 ++ (leaf_of 1 0 1 ∷ []))) 3 ≡ 1
  pub fresh-none : fresh (one_level 1 []) 1 ≡ 0
  -- 18 comes before 5, 5 before 6, 6 before 14, and 11 before 10.
  pub eighteen-first : first_number (tests_from18 (insertion 1 1 0 3) 0 2 true true []) ≡ 18
  pub five-first : first_number (tests_from18 (insertion 1 1 0 3) 5119 1 true true []) ≡ 5
  pub six-first : first_number (tests_from18 (insertion 1 1 0 3) 2560 0 true true []) ≡ 6
  pub eleven-first : first_number (tests_from18 (insertion 1 1 1 0) 2560 0 true true []) ≡ 11
  -- 11: the run includes a root at level 15; not one at level 14, and not where the run ends below it.
  pub eleven : too_high 1 (full_path 11 15) 0 ≡ true
  pub eleven-not : (too_high 1 (full_path 11 14) 0 ≡ false) × (too_high 1 (full_path 10 15) 0 ≡ false)

pub sentences : Sentences
unfolding everything ten_slots
sentences =
    record {
      past-last-code = (refl, refl);
      most-nodes = (refl, refl);
      fewest-nodes = refl;
      highest-root = (refl, refl);
      absent-stays = refl;
      as-it-stands = (refl, refl, refl);
      whole-pointer = refl;
      listing-two = refl;
      listing-four = refl;
      first-two = (refl, refl);
      all-three = (refl, refl);
      rounded-down = (refl, refl);
      fresh-after = refl;
      fresh-round = refl;
      fresh-none = refl;
      eighteen-first = refl;
      five-first = refl;
      six-first = refl;
      eleven-first = refl;
      eleven = refl;
      eleven-not = (refl, refl);
    }
