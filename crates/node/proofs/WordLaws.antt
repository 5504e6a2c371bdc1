-- The words of a node are the fields of its record.
use Rattle.std.proofs.Common.{◌≡◌, ℕ, ◌+◌, ◌<◌, Bool, true, false, cond, ◌&&◌, ltb, sym, refl, add-zero, add_assoc, arith, lit<, lt-ltb}
use Rattle.model.specs.declared.Node.{Node}
use Rattle.model.specs.Table.{Words, at, node_start, has_node, blank, node_from, node}
use Rattle.list_laws.proofs.Lists.{at-replicate}
use Rattle.table_laws.proofs.Words.{at-part}
use Rattle.node.specs.Word.{word_of}

-- word j, where a field f of the record holds it
word-field : (f : Node → ℕ) (t : Words) (i j : ℕ) → j < 32 → at t (node_start i + j) ≡ f (node_from t (node_start i)) → f blank ≡ 0
    → word_of t i j ≡ f (node t i)
unfolding word_of node
word-field f t i j h e z = go (has_node t i)
  where
    go : (b : Bool) → cond (b && ltb j 32) (at t (node_start i + j)) 0 ≡ f (cond b (node_from t (node_start i)) blank)
    go true = rw (lt-ltb j 32 h) e
    go false = sym z

-- word 0 of a node is its left
pub word-left : (t : Words) (i : ℕ) → word_of t i 0 ≡ (node t i).left
unfolding node_from blank
word-left t i = word-field (λ n. n.left) t i 0 (lit< tt) (rw add-zero) refl

-- word 1 of a node is its sibling
pub word-sibling : (t : Words) (i : ℕ) → word_of t i 1 ≡ (node t i).sibling
unfolding node_from blank
word-sibling t i = word-field (λ n. n.sibling) t i 1 (lit< tt) refl refl

-- word 2 of a node is its level
pub word-level : (t : Words) (i : ℕ) → word_of t i 2 ≡ (node t i).level
unfolding node_from blank
word-level t i = word-field (λ n. n.level) t i 2 (lit< tt) refl refl

-- word 3 of a node is its fence
pub word-fence : (t : Words) (i : ℕ) → word_of t i 3 ≡ (node t i).fence
unfolding node_from blank
word-fence t i = word-field (λ n. n.fence) t i 3 (lit< tt) refl refl

-- word 8 + j of a node is word j of its slots
pub word-slot : (t : Words) (i j : ℕ) → j < 24 → word_of t i (8 + j) ≡ at (node t i).slots j
unfolding node_from blank
word-slot t i j h = word-field (λ n. at n.slots j) t i (8 + j) (omega arith) (rw (← add_assoc, at-part)) (at-replicate 24 j)
