-- Sentences of request 8, sentinels for the leaves, each computed where it decides.
use Rattle.std.proofs.Common.{◌≡◌, true, false, [], ◌∷◌, ◌++◌, length, set, replicate, refl}
use Rattle.model.specs.declared.Answer.TheVariants.{Found, Absent, Refused}
use Rattle.std.specs.Prelude.{Some, None}
use Rattle.model.specs.Table.{MARK, Words, empty, empty_of}
use Rattle.model.specs.Search.{search}
use Rattle.model.specs.Reached.{map_of}
use Rattle.model.specs.SoundTest.{sound}
use Rattle.model.specs.Shifts.{key_word, pointer_word}
use Rattle.model.specs.Writes.{insertion, deletion, repair, stores_of}
use Rattle.model.specs.Sentinels.{sentinels, words_of, stores_to_node, search_with, work_number, refusal_with, sentinels_with}
use Rattle.model.proofs.Everything.{everything}
use Rattle.trials.proofs.Calls.{cut_after}
use Rattle.trials.proofs.Collections.{after, fill, start, twelfth, half_split, nearly}

-- an empty leaf that still has (MARK, 5) in its slot 9
abbrev pub stale : Words
stale = set (set (empty 1) (key_word 1 9) MARK) (pointer_word 1 9) 5

-- a root leaf with keys 3 and MARK
abbrev pub marked : Words
marked = after (insertion 1 MARK 9 0) (fill 1 3 1 (empty 1))

-- node 2 of start with slot 9's key as slot 2's: not sound
abbrev pub twice : Words
twice = set start (key_word 2 9) 3

-- two roots that are one: not sound
abbrev pub shared : Words
shared = set (empty_of 2 6) 3 1

-- a cut in the split of node 2 when its sibling is stored: from there on its upper slots are ignored
abbrev pub linked : Words
linked = cut_after 66 twelfth start

-- the words of start when its second tree has nodes 2 and 4 as leaves and 3 as root
abbrev grown : Words
grown = (5 ∷ MARK ∷ MARK ∷ 1 ∷ 5 ∷ MARK ∷ 0 ∷ 0 ∷ 0 ∷ 6 ∷ 10 ∷ MARK ∷ []) ++ replicate 6 0

pub record SentinelWords : Type 0 where
  -- 3 words a node: the key of the first shown slot of each line of a reachable leaf, else MARK; 0 for other nodes. Of both collections.
  pub words : sentinels start ≡ (5 ∷ MARK ∷ MARK ∷ 1 ∷ 5 ∷ 9 ∷ []) ++ replicate 12 0
  -- Whether a line's first slot is hidden goes by the pointer on the line before, that of slot 0 by left.
  pub hidden-fourth : words_of (sentinels (set start (pointer_word 2 4) 104)) 2 ≡ 1 ∷ 6 ∷ 9 ∷ []
  pub hidden-first : words_of (sentinels (set start (pointer_word 2 0) MARK)) 2 ≡ 2 ∷ 5 ∷ 9 ∷ []
  -- Ignored slots count: in the midst of a split A still shows them.
  pub ignored : (sound linked ≡ true) × (length (map_of 2 linked) ≡ 11) × (words_of (sentinels linked) 2 ≡ 1 ∷ 5 ∷ 9 ∷ [])
      × (words_of (sentinels linked) 4 ≡ 6 ∷ 10 ∷ MARK ∷ [])
  -- An inner node has 0, and so has a leaf that a deletion freed; both were stored to.
  pub inner : (stores_to_node (stores_of twelfth start) 3 ≡ true)
      × (words_of (sentinels_with twelfth (sentinels start) 2560 0 start) 3 ≡ 0 ∷ 0 ∷ 0 ∷ [])
  pub freed : (stores_to_node (stores_of (deletion 2 12) nearly) 4 ≡ true)
      × (sentinels_with (deletion 2 12) (sentinels nearly) 2560 0 nearly ≡ (5 ∷ MARK ∷ MARK ∷ 1 ∷ 5 ∷ MARK ∷ []) ++ replicate 12 0)
  -- Kept true by accepted writes, a repair too; no words are set but of the nodes stored to.
  pub split-true : (sentinels_with twelfth (sentinels start) 2560 0 start ≡ grown) × (sentinels (after twelfth start) ≡ grown)
  pub freed-true : sentinels (after (deletion 2 12) nearly) ≡ (5 ∷ MARK ∷ MARK ∷ 1 ∷ 5 ∷ MARK ∷ []) ++ replicate 12 0
  pub repair-true : (sentinels_with repair (sentinels half_split) 2560 0 half_split ≡ grown) × (sentinels (after repair half_split) ≡ grown)
  pub others-stay : words_of (sentinels_with twelfth (replicate 18 7) 2560 0 start) 1 ≡ 7 ∷ 7 ∷ 7 ∷ []
  -- With false words a search equals the plain one on a sound table, be it led to no line, or to one where the key is not.
  pub no-line : search_with 2 (replicate 18 MARK) start 3 ≡ Found 103 0
  pub last-line : (search_with 2 (replicate 18 0) start 3 ≡ Found 103 0) × (search_with 2 (replicate 18 0) start 12 ≡ Absent None)
  pub neighbour : (search_with 1 (replicate 18 6) start 0 ≡ Absent (Some 5)) × (search_with 1 (replicate 18 0) start 0 ≡ Absent (Some 5))
  -- Slots past the first pointer 0 are not in use, whatever they hold and whatever the words say.
  pub past-the-end : (sound stale ≡ true) × (sentinels stale ≡ MARK ∷ MARK ∷ MARK ∷ [])
      × (search_with 1 (sentinels stale) stale MARK ≡ Absent None)
  -- The key MARK is found, though its line may have the word of a line without shown slots.
  pub mark-found : (search_with 1 (sentinels marked) marked MARK ≡ Found 9 0) × (search_with 1 (0 ∷ 0 ∷ 0 ∷ []) marked MARK ≡ Found 9 0)
  -- On another table the slot chosen differs, and nothing else.
  pub other-slot : (sound twice ≡ false) × (search 2 twice 3 ≡ Found 103 0) × (search_with 2 (replicate 18 0) twice 3 ≡ Found 110 0)
  -- 19 comes straight after 17: after 2 and 17, before 4.
  pub search-nineteen :
      (search_with 2 [] start 1 ≡ Refused 19) × (search_with 3 [] start 1 ≡ Refused 17) × (search_with 1 [] (set start 3 7) 1 ≡ Refused 2)
  pub write-nineteen :
      (refusal_with (deletion 1 6) 17 0 0 shared ≡ 19) × (refusal_with (deletion 3 6) 17 0 0 shared ≡ 17)
      × (refusal_with (deletion 1 6) 18 0 0 shared ≡ 4)
  pub repair-nineteen : (refusal_with repair 19 0 0 shared ≡ 19) × (refusal_with repair 19 0 0 (set shared 3 7) ≡ 2)
  -- Working them out on a table that is not sound gives 4, after 19.
  pub works : (work_number 18 start ≡ 0) × (work_number 18 shared ≡ 4) × (work_number 17 shared ≡ 19)
      × (work_number 17 (set shared 3 7) ≡ 2)

pub sentinel_words : SentinelWords
unfolding everything
sentinel_words =
    record {
      words = refl;
      hidden-fourth = refl;
      hidden-first = refl;
      ignored = (refl, refl, refl, refl);
      inner = (refl, refl);
      freed = (refl, refl);
      split-true = (refl, refl);
      freed-true = refl;
      repair-true = (refl, refl);
      others-stay = refl;
      no-line = refl;
      last-line = (refl, refl);
      neighbour = (refl, refl);
      past-the-end = (refl, refl, refl);
      mark-found = (refl, refl);
      other-slot = (refl, refl, refl);
      search-nineteen = (refl, refl, refl);
      write-nineteen = (refl, refl, refl);
      repair-nineteen = (refl, refl);
      works = (refl, refl, refl, refl);
    }
