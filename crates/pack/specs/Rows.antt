-- The words of nodes that are packed in place, by what stands in the slice. Nodes are counted from 0: node k begins at word 32 * k.
use Rattle.std.specs.Prelude.{cond, List, [], ◌∷◌, ◌++◌, map, ℕ, zero, suc, pred, ◌+◌, ◌-◌, ◌*◌, ◌/◌, eqb, ltb, take, drop, replicate}
use Rattle.std.proofs.lemmas.List.Edits.{sets}
use Rattle.model.specs.Table.{MARK, Words, at}
use Rattle.model.specs.Slots.{Slot, slot, slots_of, slot_words}
use Rattle.model.specs.Writes.{node_words}
use Rattle.model.specs.Packing.{Made, groups, inner_from, row_words, packed_count, packed_words}

-- the pairs in the first words
abbrev pub pairs_in : Words → (m : ℕ) → List Slot
pairs_in ws m = slots_of (take (2 * m) ws)

-- the words of a node before its slots, and those of its slots
abbrev pub head_words : (left sibling level fence : ℕ) → Words
head_words left sibling level fence = left ∷ sibling ∷ level ∷ fence ∷ replicate 4 0

abbrev pub slotted : List Slot → Words
slotted ss = take 24 (slot_words ss ++ replicate 24 0)

-- the number of the node after node k, in a row that ends before node e; 0 for none
unfoldable pub next_number : (k e : ℕ) → ℕ
next_number k e = cond (ltb (suc k) e) (suc (suc k)) 0

-- leaf j of e, of the pairs in the first words; z nodes come before the leaves
unfoldable pub leaf_fence : Words → (j : ℕ) → ℕ
leaf_fence ws j = cond (eqb j 0) 0 (at ws (22 * j))

abbrev pub leaf_words : Words → (z m e j : ℕ) → Words
leaf_words ws z m e j = node_words MARK (next_number (z + j) (z + e)) 0 (leaf_fence ws j) (take 11 (drop (11 * j) (pairs_in ws m)))

-- c nodes from node k on, as children
unfoldable pub children_from : Words → (k c : ℕ) → List Slot
children_from ws k zero = []
children_from ws k (suc c) = slot (at ws (32 * k + 3)) (suc k) ∷ children_from ws (suc k) c

-- node b on level l, in a row that ends before node e, over c nodes from node k on
abbrev pub inner_words : Words → (k c l b e : ℕ) → Words
inner_words ws k c l b e = node_words (suc k) (next_number b e) l (at ws (32 * k + 3)) (children_from ws (suc k) (pred c))

-- the row above c nodes from node k on
abbrev pub row_over : Words → (k c : ℕ) → List Made
row_over ws k c = map inner_from (groups 12 c (children_from ws k c))

-- with the rows above c nodes from node k on, the first of which is on level l
unfoldable pub raised : (fuel : ℕ) → Words → (k c l : ℕ) → Words
raised zero ws k c l = ws
raised (suc f) ws k zero l = ws
raised (suc f) ws k (suc zero) l = ws
raised (suc f) ws k (suc (suc c)) l =
    let n = suc (suc c) in
    raised f (sets ws (32 * (k + n)) (row_words l (suc (k + n)) (row_over ws k n))) (k + n) ((n + 11) / 12) (suc l)

-- the pairs in the words after z nodes
abbrev pub pairs_after : (z : ℕ) → Words → (m : ℕ) → List Slot
pairs_after z ws m = pairs_in (drop (32 * z) ws) m

-- n nodes: the first z stay, those after them hold these pairs
abbrev pub packed_after : (z n : ℕ) → Words → List Slot → Words
packed_after z n ws ps = take (32 * z) ws ++ (packed_words (suc z) ps ++ replicate (32 * (n - (z + packed_count ps))) 0)
