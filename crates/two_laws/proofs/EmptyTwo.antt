-- The empty table of one or two collections is settled, and its maps are empty.
use Rattle.std.proofs.Common.{◌≡◌, ℕ, ◌+◌, ◌*◌, ◌<◌, ◌≤◌, true, false, eqb, ◌≢◌, ◌⊎◌, [], ◌∷◌, length, set, replicate, refl, ap, ◌∙◌, inl}
use Rattle.std.proofs.Common.{inr, arith, length-set, get_or-set_other, get_or-set_same}
use mathlib.Core.Option.{none, some}
use Rattle.model.specs.declared.Node.{Node}
use Rattle.model.specs.Table.{MARK, Words, at, nodes, in_range, node_start, has_node, node, spare, blank, table_length, empty, empty_of}
use Rattle.model.specs.Slots.{node_view}
use Rattle.model.specs.Reached.{flat, reached, unless_lacking, maps_of}
use Rattle.model.specs.SoundTest.{elem, nothing, settled}
use Rattle.model.specs.Orders.{put}
use Rattle.view_laws.proofs.NodeViews.{new_node}
use Rattle.list_laws.proofs.Members.{mem-each}
use Rattle.table_laws.proofs.Header.{HeadFacts, header-iff}
use Rattle.table_laws.proofs.Nodes.{has-node-iff}
use Rattle.table_laws.proofs.Empty.{length-empty, empty-header, empty-blank, empty-spare}
use Rattle.word_laws.proofs.Outside.{Outside, outside-start, outside-store, outside-wider}
use Rattle.word_laws.proofs.HeadStores.{node-head, spare-head}
use Rattle.word_laws.proofs.Frames.{Elsewhere, view-else, view-same, left-stored, sibling-same, level-same, fence-same, slots-same}
use Rattle.word_laws.proofs.Frames.{spare-same}
use Rattle.tree_laws.proofs.Rows.{range-iff}
use Rattle.change_laws.proofs.EmptyRoot.{root-alone, map-none, empty-left}
use Rattle.step_laws.proofs.EmptyTable.{empty_leaf, leaf-view, first-leaf}
use Rattle.step_laws.proofs.TreeAt.{tree_at}
use Rattle.two_laws.proofs.TwoLaw.{taken, Tree}
use Rattle.two_laws.proofs.Arrange.{tree-settled}

-- ---- one collection

module _ (n : ℕ) (low : 1 ≤ n) (high : n ≤ 65535) where
  abbrev t : Words
  t = empty n

  root-is : at t 1 ≡ 1
  unfolding empty
  root-is = refl

  nodes-are : nodes t ≡ n
  unfolding empty
  nodes-are = refl

  alone : at t 3 ≡ 0
  unfolding empty
  alone = refl

  leaf : node_view t (at t 1) ≡ new_node MARK 0 0 0 []
  leaf = ap (node_view t) root-is ∙ first-leaf n low

  range : in_range (nodes t) (at t 1) ≡ true
  range = (range-iff (nodes t) (at t 1)).1 (omega (arith, root-is), omega (arith, root-is, nodes-are))

  tree-one : Tree 1 [] t nothing
  unfolding flat elem
  tree-one =
      let h = (header-iff t).0 (empty-header n low high) in
      record {
        head = record { size = h.size; first = h.first; zeros = λ w p q. h.zeros w p q };
        left = empty-left (tree_at 1 t) leaf range;
        room = refl;
        others = tt;
        apart = mem-each (λ (m : ℕ). elem m (taken [] t) ≡ false) (reached (tree_at 1 t)) (λ m h. refl);
      }

  one-settled : settled t ≡ true
  one-settled = tree-settled 1 [] t (inl (refl, (refl, alone))) tree-one

  one-maps : maps_of t ≡ record { one = []; two = none }
  unfolding maps_of
  one-maps = rw (alone, map-none (tree_at 1 t) leaf range)

-- ---- two collections: header word 3 is 2, and node 2's left is MARK too

module _ (n : ℕ) (low : 2 ≤ n) (high : n ≤ 65535) where
  abbrev t₀ : Words
  t₀ = empty n

  abbrev t₁ : Words
  t₁ = set (empty n) 3 2

  abbrev t₂ : Words
  t₂ = set t₁ (node_start 2) MARK

  long : length t₂ ≡ 8 + 32 * n
  unfolding table_length
  long = length-set t₁ (node_start 2) MARK ∙ length-set t₀ 3 2 ∙ length-empty n (omega arith)

  there₁ : has_node t₁ 2 ≡ true
  there₁ = (has-node-iff t₁ 2).1 (omega arith, omega (arith, long, length-set t₁ (node_start 2) MARK))

  one : Outside (node_start 2) 1 t₁ t₂
  one = outside-store (node_start 2) 1 t₁ t₁ (put (node_start 2) MARK) (omega arith) (outside-start (node_start 2) 1 t₁)

  else : Elsewhere 2 t₁ t₂
  else = outside-wider (node_start 2) 1 (node_start 2) 32 t₁ t₂ (omega arith) (omega arith) one

  first : node_view t₂ 1 ≡ new_node MARK 0 0 0 []
  first = (view-else t₁ t₂ 2 else (omega arith)).else 1 (λ e. omega arith)
      ∙ view-same t₀ t₁ 1 (node-head t₀ 3 2 1 (omega arith)) (spare-head t₀ 3 2 1 (omega arith)) ∙ first-leaf n (omega arith)

  blank₁ : node t₁ 2 ≡ blank
  blank₁ = node-head t₀ 3 2 2 (omega arith) ∙ empty-blank n 2 (λ e. omega arith)

  second-words : node t₂ 2 ≡ empty_leaf
  unfolding node_start blank
  second-words = λ i. record {
    left = left-stored t₁ 2 MARK there₁ i;
    sibling = (sibling-same (node_start 2) 1 t₁ t₂ one 2 (omega arith) ∙ ap (λ (m : Node). m.sibling) blank₁) i;
    level = (level-same (node_start 2) 1 t₁ t₂ one 2 (omega arith) ∙ ap (λ (m : Node). m.level) blank₁) i;
    fence = (fence-same (node_start 2) 1 t₁ t₂ one 2 (omega arith) ∙ ap (λ (m : Node). m.fence) blank₁) i;
    slots = (slots-same (node_start 2) 1 t₁ t₂ one 2 (λ w a b c d. omega arith) ∙ ap (λ (m : Node). m.slots) blank₁) i;
  }

  spare-two : spare t₂ 2 ≡ replicate 4 0
  unfolding node_start
  spare-two = spare-same (node_start 2) 1 t₁ t₂ one 2 (λ w a b c d. omega arith) ∙ spare-head t₀ 3 2 2 (omega arith)
      ∙ empty-spare n 2 (omega arith) low

  second : node_view t₂ 2 ≡ new_node MARK 0 0 0 []
  second = leaf-view t₂ 2 second-words spare-two

  head : (w : ℕ) → w < 8 → w ≢ 3 → at t₂ w ≡ at t₀ w
  unfolding node_start
  head w h z = one.same w (λ a b. omega arith) ∙ get_or-set_other t₀ 3 w 2 0 z

  three : at t₂ 3 ≡ 2
  unfolding node_start
  three = one.same 3 (λ a b. omega arith)
      ∙ get_or-set_same t₀ 3 2 0 (omega (arith, long, length-set t₁ (node_start 2) MARK, length-set t₀ 3 2))

  count : nodes t₂ ≡ n
  unfolding empty
  count = head 2 (omega arith) (λ e. omega arith)

  root : at t₂ 1 ≡ 1
  unfolding empty
  root = head 1 (omega arith) (λ e. omega arith)

  facts-of : HeadFacts t₂
  facts-of =
      let h = (header-iff t₀).0 (empty-header n (omega arith) high) in
      record {
        size = record { long = rw count long; some = omega (arith, count); few = omega (arith, count) };
        first = head 0 (omega arith) (λ e. omega arith) ∙ h.first;
        zeros = λ w p q. head w q (λ e. omega arith) ∙ h.zeros w p q;
      }

  in-one : in_range (nodes t₂) (at t₂ 1) ≡ true
  in-one = (range-iff (nodes t₂) (at t₂ 1)).1 (omega (arith, root), omega (arith, root, count))

  in-two : in_range (nodes t₂) (at t₂ 3) ≡ true
  in-two = (range-iff (nodes t₂) (at t₂ 3)).1 (omega (arith, three), omega (arith, three, count))

  leaf-one : node_view t₂ (at t₂ 1) ≡ new_node MARK 0 0 0 []
  leaf-one = ap (node_view t₂) root ∙ first

  leaf-two : node_view t₂ (at t₂ 3) ≡ new_node MARK 0 0 0 []
  leaf-two = ap (node_view t₂) three ∙ second

  tree : Tree 1 (3 ∷ []) t₂ nothing
  unfolding flat elem
  tree = record {
    head = facts-of;
    left = empty-left (tree_at 1 t₂) leaf-one in-one;
    room = refl;
    others = (empty-left (tree_at 3 t₂) leaf-two in-two, tt);
    apart = rw (root-alone (tree_at 1 t₂) leaf-one in-one, root-alone (tree_at 3 t₂) leaf-two in-two, root, three) (refl, tt);
  }

  two-settled : settled t₂ ≡ true
  two-settled = tree-settled 1 (3 ∷ []) t₂ (inr (inl (refl, (refl, λ z. omega (arith, three, z))))) tree

  two-maps : maps_of t₂ ≡ record { one = []; two = some [] }
  unfolding maps_of
  two-maps = λ i. record {
    one = map-none (tree_at 1 t₂) leaf-one in-one i;
    two = unless_lacking (ap (λ (x : ℕ). eqb x 0) three i) (map-none (tree_at 3 t₂) leaf-two in-two i);
  }

-- ---- as the making chose

-- the empty table of 1 or 2 collections, with at least a node for each, is settled
pub empty-settled : (n N : ℕ) → (n ≡ 1) ⊎ (n ≡ 2) → n ≤ N → N ≤ 65535 → settled (empty_of n N) ≡ true
unfolding empty_of
empty-settled n N (inl e) low high = rw e (one-settled N (omega arith) high)
empty-settled n N (inr e) low high = rw e (two-settled N (omega arith) high)

-- the empty table of one collection has an empty map, and no second
pub empty-one-maps : (N : ℕ) → 1 ≤ N → N ≤ 65535 → maps_of (empty_of 1 N) ≡ record { one = []; two = none }
unfolding empty_of
empty-one-maps N low high = one-maps N low high

-- the empty table of two collections has two empty maps
pub empty-two-maps : (N : ℕ) → 2 ≤ N → N ≤ 65535 → maps_of (empty_of 2 N) ≡ record { one = []; two = some [] }
unfolding empty_of
empty-two-maps N low high = two-maps N low high
