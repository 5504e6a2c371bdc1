-- Salvages tried on tables of one collection, sound and damaged; and packings of some sizes.
use Rattle.std.proofs.Common.{◌≡◌, ℕ, zero, suc, ◌+◌, ◌*◌, true, List, [], ◌∷◌, ◌++◌, replicate, refl}
use mathlib.Core.Option.{none}
use Rattle.std.specs.Prelude.{Ok}
use Rattle.model.specs.Table.{MARK, Words, empty}
use Rattle.model.specs.Slots.{Slot, slot, pointer_of}
use Rattle.model.specs.Reached.{map_of, Maps, maps_of}
use Rattle.model.specs.SoundTest.{all, settled, sound}
use Rattle.model.specs.Writes.{node_words}
use Rattle.model.specs.Packing.{packed_count, packed_table}
use Rattle.model.specs.Salvage.{entered, Drop, gathered, salvage_number, salvage, salvage_out, salvage_report}
use Rattle.model.proofs.Everything.{everything}
use Rattle.model.proofs.Worked.{ten_slots}
use Rattle.model.proofs.Tables.{table_of, leaf_of, two_levels, ways}

-- ---- packing

-- n pairs: key 10 times i, recording 100 plus i
abbrev pub pairs : ℕ → ℕ → List Slot
pairs zero i = []
pairs (suc n) i = slot (10 * i) (100 + i) ∷ pairs n (suc i)

-- pairs of collection 1, without a collection 2
abbrev pub alone : List Slot → Maps
alone ps = record { one = ps; two = none }

-- With no pairs the result is the empty table.
pub packs-none : packed_table 3 (alone []) ≡ empty 3
unfolding everything
packs-none = refl

-- 12 pairs: a leaf of 11, a leaf of one with its key as fence, and the root, node 3; nodes past them are 0
pub packs-twelve : packed_table 4 (alone (pairs 12 1))
    ≡ table_of 3 (node_words MARK 2 0 0 (pairs 11 1) ∷ node_words MARK 0 0 120 (pairs 1 12)
    ∷ node_words 1 0 1 0 (slot 120 2 ∷ []) ∷ replicate 32 0 ∷ [])
unfolding everything
packs-twelve = refl

pub packs-settled : all (λ (n : ℕ). settled (packed_table 20 (alone (pairs n 1)))) (0 ∷ 1 ∷ 11 ∷ 12 ∷ 22 ∷ 30 ∷ 132 ∷ 133 ∷ 150 ∷ []) ≡ true
unfolding everything
packs-settled = refl

pub packs-map : maps_of (packed_table 20 (alone (pairs 150 1))) ≡ alone (pairs 150 1)
unfolding everything
packs-map = refl

-- three levels: 1,600 pairs, 146 leaves, 13 and 2 inner nodes, a root
pub counts : packed_count (pairs 1600 1) ≡ 146 + (13 + (2 + 1))
unfolding everything
counts = refl

-- ---- the nodes entered, and what is gathered

-- four nodes: the root 3 over 1 and 2, with the siblings and node 2's level and slots as given; node 4 is free
abbrev pub tree : (s1 s2 l2 : ℕ) → List Slot → Words
tree s1 s2 l2 ss =
    table_of 3 (node_words MARK s1 0 0 (slot 10 100 ∷ slot 20 200 ∷ []) ∷ node_words MARK s2 l2 50 ss
    ∷ node_words 1 0 1 0 (slot 50 2 ∷ []) ∷ replicate 32 0 ∷ [])

abbrev pub good : Words
good = tree 2 0 0 (slot 50 300 ∷ [])

abbrev pub dropped : (n p r : ℕ) → Drop
dropped n p r = record { node = n; place = p; reason = r }

pub good-sound : sound good ≡ true
unfolding everything
good-sound = refl

pub good-entered : entered 1 good ≡ 3 ∷ 1 ∷ 2 ∷ []
unfolding everything
good-entered = refl

pub good-gathered : gathered 1 good ≡ record { kept = map_of 1 good; dropped = [] }
unfolding everything
good-gathered = refl

-- a ring: node 2's slots are not below the fence of its sibling 1, which is 0; they are not met
pub ring : gathered 1 (tree 2 1 0 (slot 20 400 ∷ slot 60 500 ∷ [])) ≡ record { kept = slot 10 100 ∷ slot 20 200 ∷ []; dropped = [] }
unfolding everything
ring = refl

-- hidden behind left; a code kept; a recording kept; then one that is kept
pub twice : gathered 1 (tree 2 0 0 (slot 50 MARK ∷ slot 20 400 ∷ slot 60 100 ∷ slot 70 500 ∷ []))
    ≡ record { kept = slot 10 100 ∷ slot 20 200 ∷ slot 70 500 ∷ []; dropped = dropped 2 1 2 ∷ dropped 2 2 3 ∷ [] }
unfolding everything
twice = refl

-- the first reason: a class out of range under a code already kept; a code that was dropped for its recording is not kept
pub first-reason : gathered 1 (tree 2 0 0 (slot 15 100 ∷ slot 20 MARK ∷ slot 15 600 ∷ []))
    ≡ record { kept = slot 10 100 ∷ slot 15 600 ∷ slot 20 200 ∷ []; dropped = dropped 2 0 3 ∷ dropped 2 1 1 ∷ [] }
unfolding everything
first-reason = refl

-- a class of 3; a recording kept, in another class; class 2; recording 0 in class 1
pub classes : gathered 1
    (tree 2 0 0 (slot 60 (pointer_of 700 3) ∷ slot 61 (pointer_of 100 1) ∷ slot 62 (pointer_of 800 2) ∷ slot 63 (pointer_of 0 1) ∷ []))
    ≡ record {
      kept = slot 10 100 ∷ slot 20 200 ∷ slot 62 (pointer_of 800 2) ∷ [];
      dropped = dropped 2 0 1
          ∷ dropped 2 1 3 ∷ dropped 2 3 1 ∷ [];
    }
unfolding everything
classes = refl

-- a node of a wrong level is entered neither as a child nor as a sibling
pub wrong-level : entered 1 (tree 2 0 7 []) ≡ 3 ∷ 1 ∷ []
unfolding everything
wrong-level = refl

-- the chain is cut: the second leaf is entered by its slot
pub cut-chain : entered 1 (tree 0 0 0 []) ≡ 3 ∷ 1 ∷ 2 ∷ []
unfolding everything
cut-chain = refl

-- the first leaf's sibling, which passes over the second leaf, comes before the parent's slots
pub sibling-first : entered 1
    (table_of 4 (node_words MARK 3 0 0 [] ∷ node_words MARK 0 0 50 [] ∷ node_words MARK 0 0 70 []
    ∷ node_words 1 0 1 0 (slot 50 2 ∷ slot 70 3 ∷ []) ∷ []))
    ≡ 4 ∷ 1 ∷ 3 ∷ 2 ∷ []
unfolding everything
sibling-first = refl

-- a leaf with two parents is entered once, and its slots are collected once
abbrev shared : Words
shared =
    table_of 5 (node_words MARK 0 0 0 (slot 10 100 ∷ []) ∷ node_words MARK 0 0 60 (slot 60 200 ∷ []) ∷ node_words 1 4 1 0 []
    ∷ node_words 1 0 1 50 (slot 60 2 ∷ []) ∷ node_words 3 0 2 0 (slot 50 4 ∷ []) ∷ [])

pub two-parents : (entered 1 shared ≡ 5 ∷ 3 ∷ 1 ∷ 4 ∷ 2 ∷ [])
    × (gathered 1 shared ≡ record { kept = slot 10 100 ∷ slot 60 200 ∷ []; dropped = [] })
unfolding everything
two-parents = (refl, refl)

-- ways back to the parent and to the node itself: no level fits
pub cycle : entered 1 (table_of 1 (node_words 2 0 2 0 (slot 5 1 ∷ slot 6 2 ∷ []) ∷ node_words 1 2 1 0 (slot 5 2 ∷ slot 6 1 ∷ []) ∷ [])) ≡ 1
    ∷ 2 ∷ []
unfolding everything
cycle = refl

-- the root is entered whatever its level
pub any-root : entered 1 (table_of 1 (node_words 2 0 MARK 0 [] ∷ node_words 1 1 18446744073709551614 0 [] ∷ [])) ≡ 1 ∷ 2 ∷ []
unfolding everything
any-root = refl

-- a sibling in range on another level, or the node itself, still gives its fence
pub own-sibling : gathered 1 (table_of 1 (node_words MARK 1 0 15 (slot 10 100 ∷ slot 20 200 ∷ []) ∷ []))
    ≡ record { kept = slot 10 100 ∷ []; dropped = [] }
unfolding everything
own-sibling = refl

-- with a sibling outside 1 to N all shown slots count
pub far-sibling : gathered 1 (table_of 1 (node_words MARK 2 0 15 (slot 10 100 ∷ slot 20 200 ∷ []) ∷ []))
    ≡ record { kept = slot 10 100 ∷ slot 20 200 ∷ []; dropped = [] }
unfolding everything
far-sibling = refl

-- a sound table with a leftover: the root lacks its slot for node 2, which is entered as a sibling
abbrev lacking : Words
lacking = two_levels (2 ∷ 3 ∷ []) [] []

pub lacking-sound : sound lacking ≡ true
unfolding everything ten_slots
lacking-sound = refl

pub lacking-gathered : gathered 1 lacking ≡ record { kept = map_of 1 lacking; dropped = [] }
unfolding everything ten_slots
lacking-gathered = refl

-- the left edge, then along the leaves; the slots of the inner nodes come after
pub wide : entered 1 (two_levels (1 ∷ 1 ∷ 1 ∷ 1 ∷ []) (ways 2 3) []) ≡ 5 ∷ 1 ∷ 2 ∷ 3 ∷ 4 ∷ []
unfolding everything ten_slots
wide = refl

-- ---- the call

abbrev twice_table : Words
twice_table = tree 2 0 0 (slot 20 400 ∷ slot 60 100 ∷ slot 70 500 ∷ [])

pub answers : salvage twice_table 136 144 ≡ Ok 2
unfolding everything
answers = refl

pub gives : salvage_out twice_table (replicate 136 9) 144 ≡ packed_table 4 (alone (slot 10 100 ∷ slot 20 200 ∷ slot 70 500 ∷ []))
unfolding everything
gives = refl

pub reports : salvage_report twice_table 136 (replicate 144 9) ≡ (2 ∷ 0 ∷ 2 ∷ 2 ∷ 1 ∷ 3 ∷ []) ++ replicate 138 9
unfolding everything
reports = refl

-- a leaf of 12 shown slots does not fit one node
abbrev pub crowded : Words
crowded = table_of 1 (node_words MARK 0 0 0 (pairs 12 1) ∷ [])

-- 2, 15, 16, 10 in that order
pub refuses : salvage_number (table_of 5 (leaf_of 1 0 3 ∷ [])) 3 3 ≡ 2
unfolding everything ten_slots
refuses = refl

pub refuses-length : salvage_number crowded 72 35 ≡ 15
unfolding everything
refuses-length = refl

pub refuses-report : salvage_number crowded 40 35 ≡ 16
unfolding everything
refuses-report = refl

pub refuses-outgrown : salvage_number crowded 40 36 ≡ 10
unfolding everything
refuses-outgrown = refl

pub refused-stays : salvage_out crowded (replicate 40 9) 36 ≡ replicate 40 9
unfolding everything
refused-stays = refl
