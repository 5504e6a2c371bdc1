-- Tables for the trials, built node by node.
use Rattle.std.proofs.Common.{ℕ, zero, suc, pred, ◌+◌, ◌*◌, List, [], ◌∷◌, ◌++◌, length, replicate}
use Rattle.model.specs.Table.{MARK, Words}
use Rattle.model.specs.Slots.{Slot, slot}
use Rattle.model.specs.Reached.{flat}
use Rattle.model.specs.Writes.{node_words}
use Rattle.model.proofs.Worked.{ten_slots}

-- the table of these nodes, 1, 2, ..
abbrev pub table_of : (root : ℕ) → List Words → Words
table_of r ns = (1 ∷ r ∷ length ns ∷ replicate 5 0) ++ flat (λ (n : Words). n) ns

-- n nodes that nothing leads to, full of stale words
abbrev pub stale : (n : ℕ) → List Words
stale n = replicate n (replicate 32 9)

-- leaf i has the fence 200 times (i − 1), and c keys: its fence plus 10, 20, ..
abbrev pub leaf_of : (i sibling c : ℕ) → Words
leaf_of i sibling c = node_words MARK sibling 0 (200 * pred i) (ten_slots c (suc (20 * pred i)))

-- leaves i, i + 1, .. with so many keys each, joined from left to right
abbrev pub leaf_row : (i : ℕ) → List ℕ → List Words
leaf_row i [] = []
leaf_row i (c ∷ []) = leaf_of i 0 c ∷ []
leaf_row i (c ∷ d ∷ cs) = leaf_of i (suc i) c ∷ leaf_row (suc i) (d ∷ cs)

-- the slots that lead to leaves i, i + 1, .., n of them
abbrev pub ways : (i n : ℕ) → List Slot
ways i zero = []
ways i (suc n) = slot (200 * pred i) i ∷ ways (suc i) n

-- a root leaf with c keys, then more nodes
abbrev pub one_level : (c : ℕ) → (more : List Words) → Words
one_level c more = table_of 1 (leaf_of 1 0 c ∷ more)

-- leaves 1 to m with so many keys each; the root, node m + 1, with these slots; then more nodes
abbrev pub two_levels : List ℕ → List Slot → (more : List Words) → Words
two_levels cs ss more = table_of (suc (length cs)) (leaf_row 1 cs ++ (node_words 1 0 1 0 ss ∷ more))

-- leaves 1 to m with so many keys each; node m + 1, with these slots, above leaf 1, and its sibling m + 2, without slots, above leaf m;
-- the root, node m + 3, with the slots rs; then more nodes
abbrev pub three_levels : List ℕ → (ss rs : List Slot) → (more : List Words) → Words
three_levels cs ss rs more =
    let m = length cs in
    table_of (m + 3) (leaf_row 1 cs
    ++ (node_words 1 (m + 2) 1 0 ss ∷ node_words m 0 1 (200 * pred m) [] ∷ node_words (m + 1) 0 2 0 rs ∷ more))
