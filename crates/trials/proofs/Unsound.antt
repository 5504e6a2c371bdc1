-- Sound tables and stores that break one sentence each of document 01's "Sound tables", of one collection or two, judged by the
-- definitions.
use Rattle.std.proofs.Common.{◌≡◌, ℕ, zero, suc, pred, ◌+◌, Bool, true, not, ◌&&◌, List, [], ◌∷◌, ◌++◌, replicate, refl}
use Rattle.model.specs.Table.{MARK, Words, node_start}
use Rattle.model.specs.Slots.{Slot, slot, RECORDINGS, pointer_of}
use Rattle.model.specs.SoundTest.{all, sound, settled}
use Rattle.model.specs.Orders.{Store, put, apply}
use Rattle.model.specs.Shifts.{key_word, pointer_word}
use Rattle.model.specs.Writes.{node_words}
use Rattle.model.proofs.Everything.{everything}
use Rattle.model.proofs.Worked.{ten_slots}
use Rattle.model.proofs.Tables.{table_of, leaf_of, ways, stale, one_level, two_levels, three_levels}

-- ---- cases

pub data Verdict : Type 0 where
  is_settled : Verdict
  has_leftover : Verdict
  not_sound : Verdict

abbrev pub judged_as : Verdict → Words → Bool
judged_as is_settled t = settled t
judged_as has_leftover t = sound t && not (settled t)
judged_as not_sound t = not (sound t)

-- a sound table, stores, and the verdict on what they leave
pub record Case : Type 0 where
  pub table : Words
  pub stores : List Store
  pub verdict : Verdict

abbrev pub passes : Case → Bool
passes c = sound c.table && judged_as c.verdict (apply c.stores c.table)

abbrev pub breaks : Words → List Store → Case
breaks t ss = record { table = t; stores = ss; verdict = not_sound }

abbrev pub leaves_over : Words → List Store → Case
leaves_over t ss = record { table = t; stores = ss; verdict = has_leftover }

abbrev pub settles : Words → List Store → Case
settles t ss = record { table = t; stores = ss; verdict = is_settled }

-- word w, key i and pointer i of node n
abbrev pub word : (n w x : ℕ) → Store
word n w x = put (node_start n + w) x

abbrev pub key : (n i x : ℕ) → Store
key n i x = put (key_word n i) x

abbrev pub pointer : (n i x : ℕ) → Store
pointer n i x = put (pointer_word n i) x

-- ---- tables

-- a root leaf with a leaf beside it that nothing leads to
abbrev pub two : Words
two = one_level 2 (leaf_of 2 0 2 ∷ [])

-- leaf 1 below root 4; nothing leads to node 2 above leaf 3
abbrev pub aside : Words
aside = table_of 4 (leaf_of 1 0 1 ∷ node_words 3 0 1 400 [] ∷ leaf_of 3 0 1 ∷ node_words 1 0 1 0 [] ∷ [])

-- leaves 1, 2 and 3 with recordings 101, 102, 103; 121, 122; 141; root 4; a stale node
abbrev pub tree : Words
tree = two_levels (3 ∷ 2 ∷ 1 ∷ []) (ways 2 2) (stale 1)

-- the same but that leaf 2 lacks its slot in the root; with a fourth leaf; and with a hidden slot in the root
abbrev pub lacking : Words
lacking = two_levels (3 ∷ 2 ∷ 1 ∷ []) (ways 3 1) (stale 1)

abbrev pub lacking_of4 : Words
lacking_of4 = two_levels (2 ∷ 1 ∷ 1 ∷ 1 ∷ []) (ways 3 2) []

abbrev pub lacking_hides : Words
lacking_hides = two_levels (3 ∷ 2 ∷ 1 ∷ []) (slot 200 1 ∷ ways 3 1) (stale 1)

-- leaves 1 and 2 below node 4, leaf 3 below node 5, root 6; and leaf 7 that nothing leads to
abbrev pub high : Words
high = three_levels (1 ∷ 1 ∷ 1 ∷ []) (ways 2 1) (slot 400 5 ∷ []) (leaf_of 7 0 0 ∷ [])

-- two collections with the same pairs: leaves 1 and 2 below root 3, leaves 4 and 5 below root 6; a stale node
abbrev pub pair : Words
pair =
    apply (put 3 6 ∷ [])
    (table_of 3 (leaf_of 1 2 2 ∷ leaf_of 2 0 1 ∷ node_words 1 0 1 0 (ways 2 1)
    ∷ node_words MARK 5 0 0 (ten_slots 2 1) ∷ node_words MARK 0 0 200 (ten_slots 1 21) ∷ node_words 4 0 1 0 (slot 200 5 ∷ []) ∷ stale 1))

-- n nodes with these slots from i on, each the left child of the next
abbrev pub chain_from : List Slot → (i n : ℕ) → List Words
chain_from ss i zero = []
chain_from ss i (suc n) = node_words (pred i) 0 (pred i) 0 ss ∷ chain_from ss (suc i) n

-- a leaf and 16 nodes above it, one above the other, without slots; the last but one, on level 15, is the root
abbrev pub chain : Words
chain = table_of 16 (leaf_of 1 0 1 ∷ chain_from [] 2 16)

-- n leaves below a root, and a leaf that nothing leads to
abbrev pub wide : (n : ℕ) → Words
wide n = two_levels (replicate n 0) (ways 2 (pred n)) (leaf_of (suc (suc n)) 0 0 ∷ [])

-- ---- what breaks each sentence

abbrev pub unsound_cases : List Case
unsound_cases =
    -- the header: word 0, the root's number, N, the second root's number, words 4 to 7
    breaks tree (put 0 2 ∷ [])
    ∷ breaks tree (put 1 0 ∷ [])
    ∷ breaks tree (put 1 6 ∷ [])
    ∷ breaks tree (put 2 4 ∷ [])
    ∷ breaks tree (put 3 6 ∷ [])
    ∷ breaks (one_level 2 []) (put 3 1 ∷ [])
    ∷ breaks tree (put 4 1 ∷ [])
    ∷ breaks tree (put 7 1 ∷ [])
    -- The root has fence 0, sibling 0 and level at most 15.
    ∷ breaks (one_level 2 (stale 1)) (word 1 3 5 ∷ [])
    ∷ breaks two (word 1 1 2 ∷ [])
    ∷ breaks chain (put 1 17 ∷ [])
    -- A child's level is one less than its parent's.
    ∷ breaks tree (word 4 2 2 ∷ [])
    -- Child numbers, and siblings other than 0, are in 1 to N.
    ∷ breaks tree (word 4 0 0 ∷ [])
    ∷ breaks tree (word 4 0 6 ∷ [])
    ∷ breaks tree (pointer 4 1 6 ∷ [])
    ∷ breaks tree (word 3 1 6 ∷ [])
    -- Each reached node has one parent, except the root.
    ∷ breaks high (word 5 0 2 ∷ [])
    ∷ breaks high (word 4 0 6 ∷ [])
    -- A left child's fence is its parent's; a slot's child has the slot's key as fence.
    ∷ breaks tree (word 1 3 5 ∷ [])
    ∷ breaks tree (word 2 3 199 ∷ [])
    ∷ breaks tree (key 4 0 201 ∷ [])
    -- In each reached node words 4 to 7 and slot 11's pointer are 0.
    ∷ breaks tree (word 2 4 1 ∷ [])
    ∷ breaks tree (word 2 5 1 ∷ [])
    ∷ breaks tree (word 4 6 1 ∷ [])
    ∷ breaks tree (word 4 7 1 ∷ [])
    ∷ breaks tree (pointer 2 11 9 ∷ [])
    ∷ breaks tree (pointer 4 11 9 ∷ [])
    -- A leaf's left is MARK.
    ∷ breaks tree (word 2 0 0 ∷ [])
    -- Shown keys rise strictly, are at least the fence (above it in an inner node) and below the sibling's fence.
    ∷ breaks tree (key 1 1 10 ∷ [])
    ∷ breaks tree (key 1 1 35 ∷ [])
    ∷ breaks tree (key 2 0 199 ∷ [])
    ∷ breaks tree (key 4 0 0 ∷ word 2 3 0 ∷ [])
    ∷ breaks tree (key 1 2 200 ∷ [])
    ∷ breaks high (key 4 0 400 ∷ [])
    -- Siblings join each level from left to right.
    ∷ breaks tree (word 1 1 0 ∷ [])
    ∷ breaks tree (word 1 1 3 ∷ [])
    ∷ breaks tree (word 3 1 1 ∷ [])
    ∷ breaks tree (word 3 1 4 ∷ [])
    ∷ breaks aside (word 1 1 2 ∷ [])
    ∷ breaks high (word 2 1 0 ∷ [])
    ∷ breaks high (word 4 1 0 ∷ [])
    -- No recording number is in the map twice, whatever the classes.
    ∷ breaks tree (pointer 1 2 101 ∷ [])
    ∷ breaks tree (pointer 3 0 121 ∷ [])
    ∷ breaks tree (pointer 1 1 (pointer_of 101 1) ∷ [])
    ∷ breaks tree (pointer 3 0 (pointer_of 121 2) ∷ [])
    -- A recording number is from 1 to 72057594037927935, a class from 0 to 2. (A pointer 0 ends the slots.)
    ∷ breaks tree (pointer 1 1 (pointer_of 0 1) ∷ [])
    ∷ breaks tree (pointer 1 1 (pointer_of 102 3) ∷ [])
    ∷ breaks tree (pointer 1 1 MARK ∷ [])
    -- (a) One hidden slot: two in one node, in two nodes.
    ∷ breaks tree (pointer 1 1 101 ∷ pointer 1 2 101 ∷ [])
    ∷ breaks tree (pointer 1 1 101 ∷ pointer 2 1 121 ∷ [])
    -- (b) One node lacks its slot: two in a row; two below one parent, also with slots from B's fence up and with a hidden slot; two
    -- below two parents; two on two levels.
    ∷ breaks lacking (pointer 4 0 0 ∷ [])
    ∷ breaks lacking_of4 (pointer 5 1 0 ∷ [])
    ∷ breaks lacking_of4 (pointer 5 1 0 ∷ key 1 1 230 ∷ [])
    ∷ breaks lacking_of4 (pointer 5 1 3 ∷ [])
    ∷ breaks high (pointer 4 0 0 ∷ word 3 1 7 ∷ [])
    ∷ breaks high (pointer 4 0 0 ∷ pointer 6 0 0 ∷ [])
    -- reached only as sibling of A
    ∷ breaks lacking (word 3 1 2 ∷ [])
    ∷ breaks lacking (pointer 4 0 2 ∷ [])
    -- the parent shows at most 10 slots
    ∷ breaks (wide 12) (word 12 1 14 ∷ [])
    -- B's fence is above A's fence and, where B has a sibling, below that one's; so the parent routes it to A.
    ∷ breaks (two_levels (0 ∷ 0 ∷ 0 ∷ []) (ways 3 1) []) (word 2 3 0 ∷ [])
    ∷ breaks (two_levels (0 ∷ 0 ∷ 0 ∷ []) (ways 3 1) []) (word 2 3 400 ∷ [])
    ∷ breaks (two_levels (0 ∷ 0 ∷ 0 ∷ []) (ways 3 1) []) (word 2 3 500 ∷ [])
    -- A's last shown slots may be some from B's fence up: a key below it after one of them; those of another node, or of both; one of
    -- them hidden
    ∷ breaks lacking (key 1 1 220 ∷ [])
    ∷ breaks lacking (key 2 1 400 ∷ [])
    ∷ breaks lacking (key 1 2 230 ∷ key 2 1 400 ∷ [])
    ∷ breaks lacking (key 1 1 220 ∷ key 1 2 230 ∷ pointer 1 2 102 ∷ [])
    -- (c) As b without such slots, and the parent has the one hidden slot: with such a slot, a hidden slot elsewhere, two in the parent
    ∷ breaks lacking_hides (key 1 2 230 ∷ [])
    ∷ breaks lacking_hides (key 1 2 230 ∷ key 2 1 400 ∷ [])
    ∷ breaks lacking (pointer 1 1 101 ∷ [])
    ∷ breaks lacking (pointer 2 1 121 ∷ [])
    ∷ breaks high (pointer 4 0 0 ∷ key 5 0 700 ∷ pointer 5 0 3 ∷ [])
    ∷ breaks lacking_hides (pointer 4 1 1 ∷ key 4 2 400 ∷ pointer 4 2 3 ∷ [])
    -- No node is reached from both roots: the roots are one; a leaf of both trees, each of which is in order by itself.
    ∷ breaks pair (put 3 3 ∷ [])
    ∷ breaks pair (word 4 1 2 ∷ pointer 6 0 2 ∷ [])
    -- The second tree breaks a sentence; its recordings too are there once.
    ∷ breaks pair (word 4 3 5 ∷ [])
    ∷ breaks pair (pointer 5 0 101 ∷ [])
    -- At most one leftover exists in the whole table: a hidden slot in each tree; one in one, a missing slot in the other.
    ∷ breaks pair (pointer 1 1 101 ∷ pointer 4 1 101 ∷ [])
    ∷ breaks pair (pointer 3 0 0 ∷ pointer 4 1 101 ∷ [])
    ∷ breaks pair (pointer 3 0 0 ∷ pointer 6 0 0 ∷ [])
    ∷ []

-- ---- what breaks none

abbrev pub leftover_cases : List Case
leftover_cases =
    -- (a) whatever the hidden slot's key: in a leaf at slot 0, in an inner node at its end
    leaves_over tree (pointer 1 0 MARK ∷ key 1 0 999 ∷ [])
    ∷ leaves_over tree (key 4 2 5 ∷ pointer 4 2 3 ∷ [])
    -- (b) with 10 slots in the parent; after its last child; of an inner node
    ∷ leaves_over (wide 11) (word 11 1 13 ∷ [])
    ∷ leaves_over tree (pointer 4 1 0 ∷ [])
    ∷ leaves_over high (pointer 6 0 0 ∷ [])
    -- with slots from B's fence up: in any order, a recording of the map among them; all of A's slots; those of an inner node
    ∷ leaves_over lacking (key 1 1 240 ∷ key 1 2 210 ∷ pointer 1 2 121 ∷ [])
    ∷ leaves_over lacking (key 1 0 200 ∷ key 1 1 200 ∷ key 1 2 200 ∷ [])
    ∷ leaves_over high (pointer 6 0 0 ∷ key 4 1 400 ∷ pointer 4 1 3 ∷ [])
    -- ignored as ways to a node too: such a slot leads to none
    ∷ leaves_over high (pointer 6 0 0 ∷ key 4 1 400 ∷ pointer 4 1 99 ∷ [])
    -- (c)
    ∷ leaves_over lacking (key 4 1 0 ∷ pointer 4 1 3 ∷ [])
    -- in either of two trees
    ∷ leaves_over pair (pointer 1 1 101 ∷ [])
    ∷ leaves_over pair (pointer 4 1 101 ∷ [])
    ∷ leaves_over pair (pointer 6 0 0 ∷ [])
    ∷ []

abbrev pub settled_cases : List Case
settled_cases =
    -- An inner node may have no slots; level 15 is allowed.
    settles chain []
    -- an emptied leaf; a full leaf; a full inner node
    ∷ settles tree (pointer 3 0 0 ∷ [])
    ∷ settles (one_level 11 []) []
    ∷ settles (wide 12) []
    -- stale words past the slots in use, slot 11's key among them
    ∷ settles tree (key 2 2 5 ∷ key 2 3 250 ∷ pointer 2 3 121 ∷ key 2 11 7 ∷ key 4 3 9 ∷ pointer 4 3 9 ∷ [])
    -- unreachable nodes hold anything
    ∷ settles tree (word 5 1 1 ∷ word 5 2 0 ∷ word 5 4 3 ∷ [])
    -- a leaf's key may be its fence; keys 0 and MARK, the least recording and the largest, closed; that one, which MARK's low bits are, in
    -- slot 0
    ∷ settles tree (key 2 0 200 ∷ [])
    ∷ settles tree (key 1 0 0 ∷ pointer 1 0 1 ∷ key 3 0 MARK ∷ pointer 3 0 (pointer_of (pred RECORDINGS) 2) ∷ [])
    ∷ settles tree (pointer 1 0 (pred RECORDINGS) ∷ [])
    -- two collections may hold the same codes and recordings; without its root the second tree is unreachable
    ∷ settles pair []
    ∷ settles pair (put 3 0 ∷ [])
    ∷ []

pub judged : all passes (unsound_cases ++ (leftover_cases ++ settled_cases)) ≡ true
unfolding everything ten_slots
judged = refl
