-- Whether a leaf is freed, by the tests that the code makes: how many slots x shows, the root's level, left of p.
use Rattle.std.proofs.Common.{◌≡◌, ℕ, false, not, eqb, ◌≢◌, length, arith, le-ltb, lt-ltb, eq-eqb, ne_eqb}
use Rattle.model.specs.Table.{Words, at, root_word}
use Rattle.model.specs.Slots.{node_view}
use Rattle.model.specs.Writes.{frees_leaf}
use Rattle.node.specs.Word.{word_of}
use Rattle.node.proofs.WordLaws.{word-left, word-level}

module _ (i : ℕ) (t : Words) (p x c : ℕ) (e : c ≡ length (node_view t x).shown) where
  pub more-left : c ≢ 1 → false ≡ frees_leaf i t p x
  unfolding frees_leaf
  more-left z = rw (← e, ne_eqb c 1 z)

  module _ (one : c ≡ 1) (r l : ℕ) (h : r ≡ at t (root_word i)) (f : l ≡ word_of t r 2) where
    pub root-leaf : l ≡ 0 → false ≡ frees_leaf i t p x
    unfolding frees_leaf
    root-leaf z = rw (← e, eq-eqb c 1 one, ← word-level, ← h, ← f, le-ltb 0 l (omega arith))

    pub not-leftmost : l ≢ 0 → (w : ℕ) → w ≡ word_of t p 0 → not (eqb w x) ≡ frees_leaf i t p x
    unfolding frees_leaf
    not-leftmost z w g = rw (← e, eq-eqb c 1 one, ← word-level, ← h, ← f, lt-ltb 0 l (omega arith), g, word-left)
