-- Demand 2 as one claim over tables: on every sound table a search, a listing, an insertion, a deletion and a class change agree with an
-- ordinary map from code to recording and class.
use Rattle.std.specs.Prelude.{◌≡◌, ◌≢◌, ◌⊎◌, ◌↔◌, Bool, true, false, ℕ, ◌+◌, ◌*◌, ◌≤◌, ◌<◌, length, drop, Some, None}
use mathlib.Core.List.{List, ◌++◌, Memᴰ}
use Rattle.model.specs.Results.{Listed, page_with}
use Rattle.model.specs.declared.Answer.TheVariants.{Found, Absent, Refused}
use Rattle.model.specs.Table.{Words, no_collection}
use Rattle.model.specs.Slots.{Slot, slot, recording, class, pointer_of, with_class, node_view, view_of, slot_words}
use Rattle.model.specs.Search.{within, search, Next}
use Rattle.model.specs.Reached.{map_of}
use Rattle.model.specs.Sound.{Reached, Rise, Settled, Sound}
use Rattle.model.specs.Listing.{list, list_out}
use Rattle.model.specs.Writes.{unreachable, Call, insertion, deletion, class_change, repair, repaired}
use Rattle.model.specs.Refusals.{eleven_in, ten_in, tests_from18, first_number, refusal, table_after}

-- ---- the map

-- Document 01's sentence: s is a shown slot of a reached leaf, and its key is below the leaf's sibling's fence.
abbrev pub InMap : (n : ℕ) → Words → Slot → Type 0
InMap n t s =
    let v = view_of n t in
    (m : ℕ) × Reached v m × ((v.node m).level ≡ 0) × Memᴰ s (v.node m).shown × (within v m s.key ≡ true)

-- the map of collection n has the pair s of key and pointer
abbrev pub Has : (n : ℕ) → Words → Slot → Type 0
Has n t s = Memᴰ s (map_of n t)

-- ---- the next code up

-- of the pairs ps: it is in them and above k, and none of them is between; or none is above k
abbrev pub IsNext : ℕ → List Slot → Next → Type 0
IsNext k ps (Some j) = ((r : ℕ) × Memᴰ (slot j r) ps) × (k < j) × ((s : Slot) → Memᴰ s ps → k < s.key → j ≤ s.key)
IsNext k ps None = (s : Slot) → Memᴰ s ps → s.key ≤ k

-- ---- a listing

-- s is one of the pairs ps, and its key is in the range
abbrev pub Listable : List Slot → (low high : ℕ) → Slot → Type 0
Listable ps low high s = Memᴰ s ps × (low ≤ s.key) × (s.key ≤ high)

-- what a listing of the pairs ps from low to high answers, and makes of the lent slice out
pub record Listing (ps : List Slot) (low high : ℕ) (out : Words) (answer : Listed) (slice : Words) : Type 0 where
  -- It answers the number of the pairs that it writes, and whether more were left.
  pub pairs : List Slot
  pub more : Bool
  pub answers : answer ≡ page_with (length pairs) more
  -- It writes pairs in that range, rising; one that it does not write is above them all.
  pub in-range : (s : Slot) → Memᴰ s pairs → Listable ps low high s
  pub rises : Rise pairs
  pub lowest : (s : Slot) → Listable ps low high s → Memᴰ s pairs ⊎ ((u : Slot) → Memᴰ u pairs → u.key < s.key)
  -- While whole pairs fit: if more were left, no further pair fits.
  pub fits : 2 * length pairs ≤ length out
  pub full : more ≡ true → length out < 2 * length pairs + 2
  pub further : (more ≡ true) ↔ ((s : Slot) × Listable ps low high s × (Memᴰ s pairs → ⊥))
  -- (key, recording and class); other words stay.
  pub writes : slice ≡ slot_words pairs ++ drop (2 * length pairs) out
  -- Lowest above highest gives none.
  pub none : high < low → (answer ≡ page_with 0 false) × (slice ≡ out)

-- ---- the calls

-- the call changes collection n
abbrev pub Names : (n : ℕ) → Call → Type 0
Names n (insertion m k r c) = m ≡ n
Names n (deletion m k) = m ≡ n
Names n (class_change m k c) = m ≡ n
Names n repair = ⊥

-- of collection n of table t
pub record Demand2 (n : ℕ) (t : Words) : Type 0 where
  -- The map is that of the sentence, and it is a map: its keys rise, so each is there once.
  pub map-is : (s : Slot) → Has n t s ↔ InMap n t s
  pub keys-rise : Rise (map_of n t)
  -- A search answers found with a pair's recording and class exactly if the map has the pair, absent exactly if it has no pair of that
  -- key, with the next code up; it is never refused.
  pub found : (k r c : ℕ) → (search n t k ≡ Found r c) ↔ ((s : Slot) × Has n t s × (s.key ≡ k) × (recording s ≡ r) × (class s ≡ c))
  pub absent : (k : ℕ) → (x : Next) → (search n t k ≡ Absent x) ↔ (((s : Slot) → Has n t s → s.key ≢ k) × IsNext k (map_of n t) x)
  pub answers : (k m : ℕ) → search n t k ≢ Refused m
  -- A listing gives the map's pairs in its range.
  pub lists : (low high : ℕ) → (out : Words) → Listing (map_of n t) low high out (list n t low high out) (list_out n t low high out)
  -- An accepted insertion: its pair more. An accepted deletion: the pair of its key less. An accepted class change: that code has the class
  -- asked for, and nothing else differs.
  pub inserts : (k r c words dock : ℕ) → refusal (insertion n k r c) words dock t ≡ 0
      → (s : Slot) → Has n (table_after (insertion n k r c) words dock t) s ↔ ((s ≡ slot k (pointer_of r c)) ⊎ Has n t s)
  pub deletes : (k words dock : ℕ) → refusal (deletion n k) words dock t ≡ 0
      → (s : Slot) → Has n (table_after (deletion n k) words dock t) s ↔ (Has n t s × (s.key ≢ k))
  pub reclasses : (k c words dock : ℕ) → refusal (class_change n k c) words dock t ≡ 0
      → (s : Slot) → Has n (table_after (class_change n k c) words dock t) s
      ↔ ((Has n t s × (s.key ≢ k)) ⊎ ((u : Slot) × Has n t u × (u.key ≡ k) × (s ≡ slot k (with_class u.pointer c))))
  -- A repair, and a change of the other collection, keep the map.
  pub keeps : (x : Call) → (words dock : ℕ) → refusal x words dock t ≡ 0 → (Names n x → ⊥) → map_of n (table_after x words dock t) ≡ map_of n t
  -- An accepted call leaves a settled table, of which all of this holds again.
  pub settles : (x : Call) → (words dock : ℕ) → refusal x words dock t ≡ 0 → Settled (table_after x words dock t)
  -- It is accepted or refused by its arguments and its map; 11 and 10 by their conditions on the table as repair would leave it.
  pub judged : (x : Call) → (words dock : ℕ) → Names n x
      → refusal x words dock t ≡ first_number (tests_from18 x words dock (eleven_in x (repaired t)) (ten_in x (repaired t)) (map_of n t))

-- ---- request 6: what a call's number goes by

-- the same tree of collection n: the same root, and each node reached from it reads the same
abbrev pub SameTree : (n : ℕ) → (t t' : Words) → Type 0
SameTree n t t' = ((view_of n t').root ≡ (view_of n t).root) × ((m : ℕ) → Reached (view_of n t) m → node_view t' m ≡ node_view t m)

-- A write's acceptance depends on the other collection only by the count of free nodes: two sound tables of one length with the same tree of
-- collection n and as many unreachable nodes give every call of n the same number.
abbrev pub OwnNumber : Type 0
OwnNumber =
    (n : ℕ) → (t t' : Words) → Sound t → Sound t' → no_collection n t ≡ false → length t' ≡ length t → SameTree n t t'
    → length (unreachable t') ≡ length (unreachable t) → (x : Call) → Names n x → (words dock : ℕ) → refusal x words dock t' ≡ refusal x words dock t
