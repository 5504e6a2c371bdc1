-- The empty table: its length, its header, its nodes, and what making leaves.
use Rattle.std.proofs.Common.{◌≡◌, ℕ, ◌+◌, ◌-◌, ◌*◌, ◌≤◌, Bool, true, false, [], ◌∷◌, length, take, drop, replicate, refl, ◌∙◌, add-zero}
use Rattle.std.proofs.Common.{arith, get_or-drop}
use lib.ListN.{length-replicate}
use lib.Seq.{drop-append-add}
use Rattle.std.proofs.lemmas.List.{take-replicate, drop-replicate}
use Rattle.model.specs.Table.{MARK, at, table_length, all_zero, header_ok, node_start, has_node, blank, node_from, node, spare, empty}
use Rattle.list_laws.proofs.Lists.{at-replicate}
use Rattle.table_laws.proofs.Words.{part-zero-iff}
use Rattle.table_laws.proofs.Header.{header-iff}
use Rattle.table_laws.proofs.Nodes.{has-node-iff, node-in, node-out, spare-in}

word-count : (n : ℕ) → length (empty n) ≡ 9 + (32 * n - 1)
unfolding empty
word-count n = rw length-replicate (omega arith)

-- the empty table of n nodes has the length of a table of n nodes
pub length-empty : (n : ℕ) → 1 ≤ n → length (empty n) ≡ table_length n
unfolding table_length
length-empty n h = omega (arith, word-count n)

-- the header of the empty table passes its test, for n from 1 to 65535
pub empty-header : (n : ℕ) → 1 ≤ n → n ≤ 65535 → header_ok (empty n) ≡ true
unfolding empty all_zero table_length
empty-header n l u =
    (header-iff (empty n)).1
    (record {
      size = record { long = length-empty n l; some = l; few = u };
      first = refl;
      zeros = (part-zero-iff (empty n) 4 4).0 refl;
      root-some = omega arith;
      root-in = l;
      two = λ z. absurd (z refl);
    })

-- Every word after left of node 1 is 0.
drop-nine : (n a : ℕ) → drop (9 + a) (empty n) ≡ replicate (32 * n - 1 - a) 0
unfolding empty
drop-nine n a = drop-append-add (1 ∷ 1 ∷ n ∷ 0 ∷ 0 ∷ 0 ∷ 0 ∷ 0 ∷ MARK ∷ []) (replicate (32 * n - 1) 0) a ∙ drop-replicate a (32 * n - 1) 0

drop-empty : (n w : ℕ) → 9 ≤ w → drop w (empty n) ≡ replicate (8 + 32 * n - w) 0
drop-empty n w h =
    let e : 9 + (w - 9) ≡ w = omega arith in
    let f : 32 * n - 1 - (w - 9) ≡ 8 + 32 * n - w = omega arith in
    rw (e, f) at (drop-nine n (w - 9))

pub empty-word : (n w : ℕ) → 9 ≤ w → at (empty n) w ≡ 0
empty-word n w h =
    let e : at (drop w (empty n)) 0 ≡ at (empty n) w = rw (get_or-drop, add-zero) in
    rw (← e, drop-empty) (at-replicate (8 + 32 * n - w) 0)

pub empty-part : (n w k : ℕ) → 9 ≤ w → w + k ≤ 8 + 32 * n → take k (drop w (empty n)) ≡ replicate k 0
empty-part n w k l u = rw drop-empty (take-replicate k (8 + 32 * n - w) 0 (omega arith))

-- so in each node all but left is 0
zero-but-left : (n i : ℕ) → has_node (empty n) i ≡ true → node (empty n) i
    ≡ record { left = at (empty n) (node_start i); sibling = 0; level = 0; fence = 0; slots = replicate 24 0 }
unfolding node_from node_start
zero-but-left n i e =
    let h = (has-node-iff (empty n) i).0 e in
    let w = node_start i in
    let low : 8 ≤ w = omega arith in
    let high : w + 32 ≤ 8 + 32 * n = omega (arith, word-count n) in
    rw (
      node-in (empty n) i e,
      empty-word n (w + 1) (omega arith),
      empty-word n (w + 2) (omega arith),
      empty-word n (w + 3) (omega arith),
      empty-part n (w + 8) 24 (omega arith) (omega arith),
    )

-- node 1 of the empty table is a leaf with left MARK and no slot in use
pub empty-leaf : (n : ℕ) → 1 ≤ n → node (empty n) 1 ≡ record { left = MARK; sibling = 0; level = 0; fence = 0; slots = replicate 24 0 }
unfolding empty node_start
empty-leaf n h = zero-but-left n 1 ((has-node-iff (empty n) 1).1 (omega (arith, word-count n)))

-- every other number reads in the empty table as a node of zeros
pub empty-blank : (n i : ℕ) → (i ≡ 1 → ⊥) → node (empty n) i ≡ blank
unfolding blank node_start
empty-blank n i h = go (has_node (empty n) i) refl
  where
    go : (b : Bool) → has_node (empty n) i ≡ b → node (empty n) i ≡ blank
    go true e = let u = (has-node-iff (empty n) i).0 e in rw (zero-but-left n i e, empty-word n (node_start i) (omega arith))
    go false e = node-out (empty n) i e

-- words 4 to 7 of each node of the empty table are 0
pub empty-spare : (n i : ℕ) → 1 ≤ i → i ≤ n → spare (empty n) i ≡ replicate 4 0
unfolding node_start
empty-spare n i l u =
    spare-in (empty n) i ((has-node-iff (empty n) i).1 (omega (arith, word-count n)))
    ∙ empty-part n (node_start i + 4) 4 (omega arith) (omega arith)
