-- Sentences of request 6, the loan collection in the same table, each computed where it decides.
use Rattle.std.proofs.Common.{◌≡◌, ℕ, zero, suc, ◌+◌, Bool, true, false, ◌&&◌, List, [], ◌∷◌, map, length, set, replicate, refl}
use Rattle.std.specs.Prelude.{Some}
use Rattle.model.specs.Results.{refused_with}
use Rattle.model.specs.declared.Answer.TheVariants.{Found, Absent, Refused}
use Rattle.model.specs.Table.{Words, at, header_ok, empty, empty_of, make_number, node_start}
use Rattle.model.specs.Slots.{slot}
use Rattle.model.specs.Search.{search}
use Rattle.model.specs.Reached.{map_of}
use Rattle.model.specs.SoundTest.{settled, sound}
use Rattle.model.specs.Listing.{list, list_out}
use Rattle.model.specs.Orders.{Store, apply}
use Rattle.model.specs.Writes.{Call, insertion, deletion, class_change, repair, stores_of, unreachable}
use Rattle.model.specs.Refusals.{refusal}
use Rattle.model.proofs.Everything.{everything}
use Rattle.model.proofs.Worked.{ten_slots}
use Rattle.trials.proofs.Calls.{cut_after}
use Rattle.trials.proofs.Unsound.{pair}

-- the table after a call
abbrev pub after : Call → Words → Words
after x t = apply (stores_of x t) t

-- each first part of the stores leaves a sound table, and all of them a settled one
abbrev pub sounds : List Store → Words → Bool
sounds [] t = settled t
sounds (s ∷ ss) t = sound t && sounds ss (set t s.word s.value)

abbrev pub keeps_sound : Call → Words → Bool
keeps_sound x t = sounds (stores_of x t) t

-- collection n with keys from, from + 1, .., count of them, each with recording 100 + key and class 0
abbrev pub fill : (n from count : ℕ) → Words → Words
fill n from zero t = t
fill n from (suc count) t = fill n (suc from) count (after (insertion n from (100 + from) 0) t)

-- collection n without keys from, from + 1, .., count of them
abbrev pub drained : (n from count : ℕ) → Words → Words
drained n from zero t = t
drained n from (suc count) t = drained n (suc from) count (after (deletion n from) t)

-- three pairs in collection 1, eleven in collection 2
abbrev pub start : Words
start = fill 2 1 11 (fill 1 5 3 (empty_of 2 6))

-- the twelfth key of collection 2, and a cut in its split
abbrev pub twelfth : Call
twelfth = insertion 2 12 112 0

abbrev pub half_split : Words
half_split = cut_after 70 twelfth start

-- collection 2 with one key left in its upper leaf
abbrev pub nearly : Words
nearly = drained 2 6 6 (after twelfth start)

pub record Collections : Type 0 where
  -- Making says whether one or two collections exist; with two, nodes 1 and 2 are empty leaves, and header word 3 is the second root.
  pub made-two : (settled (empty_of 2 6) ≡ true) × (map (at (empty_of 2 6)) (1 ∷ 3 ∷ []) ≡ 1 ∷ 2 ∷ []) × (map_of 2 (empty_of 2 6) ≡ [])
  pub made-one : empty_of 1 6 ≡ empty 6
  -- Two collections with N = 1 return 2; a number that is neither 1 nor 2 gives 17, after 2.
  pub makes : map (λ (n : ℕ). make_number n (replicate 40 0)) (0 ∷ 1 ∷ 2 ∷ []) ≡ 17 ∷ 0 ∷ 2 ∷ []
  pub makes-wrong : map (λ (n : ℕ). make_number n (replicate 41 0)) (0 ∷ 1 ∷ 2 ∷ []) ≡ 2 ∷ 2 ∷ 2 ∷ []
  -- Its new roots are stored in word 3; the other collection's map stays.
  pub grows : (keeps_sound twelfth start ≡ true) × (map (at (after twelfth start)) (1 ∷ 3 ∷ []) ≡ 1 ∷ 3 ∷ [])
  pub grown-maps : (map_of 1 (after twelfth start) ≡ slot 5 105 ∷ slot 6 106 ∷ slot 7 107 ∷ [])
      × (length (map_of 2 (after twelfth start)) ≡ 12)
  -- A writer of either finishes the one leftover: a deletion and a class change of collection 1 after a cut in collection 2's split.
  pub cut-sound : (sound half_split ≡ true) × (settled half_split ≡ false)
  pub finishes : (keeps_sound (deletion 1 6) half_split ≡ true) × (keeps_sound (class_change 1 6 2) half_split ≡ true)
  pub finished-maps : (map_of 1 (after (deletion 1 6) half_split) ≡ slot 5 105 ∷ slot 7 107 ∷ [])
      × (length (map_of 2 (after (deletion 1 6) half_split)) ≡ 11)
  pub class-own : (search 1 (after (class_change 1 6 2) half_split) 6 ≡ Found 106 2)
      × (search 2 (after (class_change 1 6 2) half_split) 6 ≡ Found 106 0)
  -- The two trees share the free nodes: a leaf that a deletion of collection 2 frees serves collection 1.
  pub frees : (keeps_sound (deletion 2 12) nearly ≡ true) × (unreachable nearly ≡ 5 ∷ 6 ∷ [])
      × (unreachable (after (deletion 2 12) nearly) ≡ 4 ∷ 5 ∷ 6 ∷ [])
  pub serves : unreachable (fill 1 20 9 (after (deletion 2 12) nearly)) ≡ 6 ∷ []
  -- 10 by the nodes that neither root reaches: the twelfth pair of collection 2 takes the last two.
  pub no-room : (refusal (insertion 1 9 109 0) 2560 0 (fill 2 1 12 (fill 1 20 11 (empty_of 2 4))) ≡ 10)
      × (refusal (insertion 1 9 109 0) 2560 0 (fill 2 1 11 (fill 1 20 11 (empty_of 2 4))) ≡ 0)
  -- Uniqueness of recordings is per collection.
  pub per-collection : (refusal (insertion 1 9 101 0) 2560 0 start ≡ 0) × (refusal (insertion 2 12 101 0) 2560 0 start ≡ 8)
  -- Word 3 above N, or other than 0 with N = 1, returns 2, in every call.
  pub above-n : (refusal repair 2560 0 (set (empty_of 2 6) 3 7) ≡ 2) × (search 1 (set (empty_of 2 6) 3 7) 5 ≡ Refused 2)
      × (list 1 (set (empty_of 2 6) 3 7) 0 9 [] ≡ refused_with 2)
  pub alone : (refusal repair 2560 0 (set (empty 1) 3 1) ≡ 2) × (search 1 (set (empty 1) 3 1) 5 ≡ Refused 2)
  -- No node is reached from both roots: 4, where search does not notice.
  pub shared-root : (header_ok (set (empty_of 2 6) 3 1) ≡ true) × (sound (set (empty_of 2 6) 3 1) ≡ false)
      × (search 2 (set start 3 1) 5 ≡ Found 105 0)
  -- 17, collection not 1 or 2, or 2 where word 3 is 0, comes straight after 2, before 4 and 5.
  pub seventeen : (refusal (deletion 2 6) 0 0 (empty 6) ≡ 17) × (refusal (insertion 0 6 0 3) 0 0 (empty 6) ≡ 17)
      × (refusal (class_change 3 6 3) 0 0 (set (empty_of 2 6) 3 1) ≡ 17)
  pub after-it : (refusal (deletion 1 6) 0 0 (set (empty_of 2 6) 3 1) ≡ 4) × (refusal (deletion 1 6) 0 0 (empty_of 2 6) ≡ 5)
      × (refusal (deletion 2 6) 2560 0 (empty_of 2 6) ≡ 9)
  pub before-it : refusal (deletion 3 6) 0 0 (set (empty_of 2 6) 3 7) ≡ 2
  pub search-seventeen : (search 3 start 1 ≡ Refused 17) × (search 2 (empty 6) 1 ≡ Refused 17)
  pub list-seventeen :
      (list 0 (set (empty_of 2 6) 3 1) 0 9 [] ≡ refused_with 17) × (list 1 (set (empty_of 2 6) 3 1) 0 9 [] ≡ refused_with 4)
  -- Search and listing name a collection: the next code up, and the pairs, are its own.
  pub next-own : (search 1 start 1 ≡ Absent (Some 5)) × (search 2 start 0 ≡ Absent (Some 1))
  pub list-own : (list_out 1 start 6 9 (replicate 4 0) ≡ 6 ∷ 106 ∷ 7 ∷ 107 ∷ [])
      × (list_out 2 start 10 99 (replicate 4 0) ≡ 10 ∷ 110 ∷ 11 ∷ 111 ∷ [])
  -- A repair names none: it mends the second tree too.
  pub mends-second : (keeps_sound repair (set pair (node_start 4 + 11) 101) ≡ true) × (sound (set pair (node_start 4 + 11) 101) ≡ true)

pub collections : Collections
unfolding everything ten_slots
collections =
    record {
      made-two = (refl, refl, refl);
      made-one = refl;
      makes = refl;
      makes-wrong = refl;
      grows = (refl, refl);
      grown-maps = (refl, refl);
      cut-sound = (refl, refl);
      finishes = (refl, refl);
      finished-maps = (refl, refl);
      class-own = (refl, refl);
      frees = (refl, refl, refl);
      serves = refl;
      no-room = (refl, refl);
      per-collection = (refl, refl);
      above-n = (refl, refl, refl);
      alone = (refl, refl);
      shared-root = (refl, refl, refl);
      seventeen = (refl, refl, refl);
      after-it = (refl, refl, refl);
      before-it = refl;
      search-seventeen = (refl, refl);
      list-seventeen = (refl, refl);
      next-own = (refl, refl);
      list-own = (refl, refl);
      mends-second = (refl, refl);
    }
