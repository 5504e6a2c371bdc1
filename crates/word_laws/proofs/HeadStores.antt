-- A store to a header word: the nodes stay, and one that holds a root changes the tree's root alone.
use Rattle.std.proofs.Common.{◌≡◌, ℕ, ◌<◌, ◌≢◌, ◌⊎◌, set, ◌∙◌, inl, inr, arith, length-set, get_or-set_other, get_or-set_same}
use Rattle.model.specs.Table.{Words, at, nodes, node_start, node, spare}
use Rattle.model.specs.Slots.{view_from}
use Rattle.model.specs.Orders.{put}
use Rattle.table_laws.proofs.Header.{HeadFacts}
use Rattle.word_laws.proofs.Outside.{Outside, outside-start, outside-store}
use Rattle.word_laws.proofs.Frames.{node-same, spare-same, view-same}

one-outside : (t : Words) (w x : ℕ) → Outside w 1 t (set t w x)
one-outside t w x = outside-store w 1 t t (put w x) (omega arith) (outside-start w 1 t)

-- a store to a header word keeps every node
pub node-head : (t : Words) (w x n : ℕ) → w < 8 → node (set t w x) n ≡ node t n
unfolding node_start
node-head t w x n h = node-same w 1 t (set t w x) (one-outside t w x) n (λ z a b c d. omega arith)

-- a store to a header word keeps words 4 to 7 of every node
pub spare-head : (t : Words) (w x n : ℕ) → w < 8 → spare (set t w x) n ≡ spare t n
unfolding node_start
spare-head t w x n h = spare-same w 1 t (set t w x) (one-outside t w x) n (λ z a b c d. omega arith)

-- one other than N changes no node
pub head-view : (t : Words) (w x q : ℕ) → w < 8 → nodes (set t w x) ≡ nodes t → view_from (set t w x) q ≡ view_from t q
head-view t w x q h e =
    λ i. record { nodes = e i; root = q; node = λ (n : ℕ). view-same t (set t w x) n (node-head t w x n h) (spare-head t w x n h) i }

-- ---- a root stored

module _ (w : ℕ) (t : Words) (r : ℕ) (low : w < 8) (which : (w ≡ 1) ⊎ (w ≡ 3)) (f : HeadFacts t) where
  other : (x : ℕ) → x ≢ 1 → x ≢ 3 → at (set t w r) x ≡ at t x
  other x y z = get_or-set_other t w x r 0 (go which)
    where
      go : (w ≡ 1) ⊎ (w ≡ 3) → x ≢ w
      go (inl e) q = y (q ∙ e)
      go (inr e) q = z (q ∙ e)

  -- everything but the root is as before
  pub root-view : view_from (set t w r) (at (set t w r) w) ≡ view_from t r
  root-view = rw (get_or-set_same t w r 0 (omega (arith, f.size.long, low))) (head-view t w r r low (other 2 (omega arith) (omega arith)))

  -- a root stored in header word 1 or 3 keeps the table's length, its first word, N and the zero words
  pub root-head : HeadFacts (set t w r)
  root-head = record {
    size = rw (length-set t w r, other 2 (omega arith) (omega arith)) f.size;
    first = other 0 (omega arith) (omega arith) ∙ f.first;
    zeros = λ x p q. other x (omega arith) (omega arith) ∙ f.zeros x p q;
  }
