-- The leaf for a key. Stores to the slots of a leaf leave all nodes reached as they were.
use Rattle.std.proofs.Common.{◌≡◌, ℕ, ◌+◌, ◌<◌, ◌≤◌, Bool, not, ◌≢◌, ◌⊎◌, List, [], ◌∷◌, ◌++◌, map, length, sym, ap, ◌∙◌, inl, inr, arith}
use Rattle.model.specs.Table.{Words, at, nodes, node_start, node}
use Rattle.model.specs.Slots.{Slot, NodeView, View, node_view, view_from, view_of, height}
use Rattle.model.specs.Search.{below}
use Rattle.model.specs.Reached.{filter, kept, first_child, fill_row, children, reached, reached_all}
use Rattle.model.specs.SoundTest.{elem}
use Rattle.model.specs.Orders.{Store, apply}
use Rattle.model.specs.Shifts.{SlotStore, in_node, shift_in, place_of}
use Rattle.model.specs.Writes.{shift_in_at, set_class_at, numbers, unreached, unreachable, standing_in, standing}
use Rattle.list_laws.proofs.Tools.{Each, at-or-off, same-or-not}
use Rattle.list_laws.proofs.Members.{mem-each}
use Rattle.list_laws.proofs.Slots.{place-length}
use Rattle.view_laws.proofs.NodeViews.{shown-eq}
use Rattle.slot_laws.proofs.Places.{Below, shift-in-places}
use Rattle.word_laws.proofs.Stores.{do_store}
use Rattle.word_laws.proofs.Outside.{Outside, outside-start, outside-store, outside-wider, Into}
use Rattle.word_laws.proofs.Frames.{left-same, sibling-same, level-same, fence-same, view-else}
use Rattle.word_laws.proofs.SlotRuns.{slot-into}
use Rattle.word_laws.proofs.ShiftViews.{shown-few}
use Rattle.tree_laws.proofs.Rows.{no-children, reached-agree, range-iff}
use Rattle.tree_laws.proofs.Levels.{Orderly}
use Rattle.tree_laws.proofs.SearchLaw.{path-stands}
use Rattle.change_laws.proofs.Parts.{good-parts}
use Rattle.two_laws.proofs.Arrange.{all-one, all-two}
use Rattle.step_laws.proofs.TreeAt.{tree_at}

-- ---- a view with other slots

abbrev slots_by : View → (ℕ → List Slot) → (ℕ → ℕ) → (ℕ → Bool) → View
slots_by v g h c = record {
  nodes = v.nodes;
  root = v.root;
  node = λ (n : ℕ). record {
    left = (v.node n).left;
    sibling = (v.node n).sibling;
    level = (v.node n).level;
    fence = (v.node n).fence;
    shown = g n;
    hidden = h n;
    clear = c n;
  };
}

module _ (v : View) (g : ℕ → List Slot) (h : ℕ → ℕ) (c : ℕ → Bool) where
  own-children : (n : ℕ) → g n ≡ (v.node n).shown → children (slots_by v g h c) n ≡ children v n
  unfolding children kept fill_row below first_child
  own-children n e = ap (λ (ss : List Slot). children (slots_by v (λ (m : ℕ). ss) h c) n) e

  -- in a leaf alone
  leaf-reached : (x : ℕ) → (v.node x).level ≡ 0 → ((n : ℕ) → n ≢ x → g n ≡ (v.node n).shown) → reached (slots_by v g h c) ≡ reached v
  leaf-reached x z e = reached-agree v (slots_by v g h c) (height v) (v.root ∷ []) (mem-each _ (reached v) (λ n m.
      at-or-off (λ (n : ℕ). children (slots_by v g h c) n ≡ children v n) x (no-children (slots_by v g h c) x z ∙ sym (no-children v x z))
      (λ n y. own-children n (e n y)) n))

-- ---- the table

module _ (t t' : Words) (x : ℕ) (some : 1 ≤ x) (leaf : (node t x).level ≡ 0) (o : Outside (node_start x + 8) 24 t t') where
  abbrev a : ℕ
  a = node_start x + 8

  abbrev Fields : (NodeView → ℕ) → Type 0
  Fields f = (n : ℕ) → f (node_view t' n) ≡ f (node_view t n)

  other : (n : ℕ) → n ≢ x → node_view t' n ≡ node_view t n
  other n z = (view-else t t' x (outside-wider a 24 (node_start x) 32 t t' (omega arith) (omega arith) o) some).else n z

  same-field : (f : NodeView → ℕ) → f (node_view t' x) ≡ f (node_view t x) → Fields f
  same-field f e = at-or-off (λ (n : ℕ). f (node_view t' n) ≡ f (node_view t n)) x e (λ n z. ap f (other n z))

  lefts : Fields (λ (n : NodeView). n.left)
  lefts = same-field (λ (n : NodeView). n.left) (left-same a 24 t t' o x (λ p q. omega arith))

  siblings : Fields (λ (n : NodeView). n.sibling)
  siblings = same-field (λ (n : NodeView). n.sibling) (sibling-same a 24 t t' o x (λ p q. omega arith))

  levels : Fields (λ (n : NodeView). n.level)
  levels = same-field (λ (n : NodeView). n.level) (level-same a 24 t t' o x (λ p q. omega arith))

  fences : Fields (λ (n : NodeView). n.fence)
  fences = same-field (λ (n : NodeView). n.fence) (fence-same a 24 t t' o x (λ p q. omega arith))

  low : (w : ℕ) → w < 8 → at t' w ≡ at t w
  low w h = o.same w (λ p q. unfold node_start in omega arith)

  abbrev other-slots : ℕ → View
  other-slots r = slots_by (view_from t r) (λ (n : ℕ). (node_view t' n).shown) (λ (n : ℕ). (node_view t' n).hidden)
      (λ (n : ℕ). (node_view t' n).clear)

  seen-same : (r : ℕ) → view_from t' r ≡ other-slots r
  seen-same r = λ i. record {
    nodes = low 2 (omega arith) i;
    root = r;
    node = λ (n : ℕ). record {
      left = lefts n i;
      sibling = siblings n i;
      level = levels n i;
      fence = fences n i;
      shown = (node_view t' n).shown;
      hidden = (node_view t' n).hidden;
      clear = (node_view t' n).clear;
    };
  }

  tree-same : (w : ℕ) → w < 8 → reached (tree_at w t') ≡ reached (tree_at w t)
  tree-same w h =
      ap (λ (r : ℕ). reached (view_from t' r)) (low w h) ∙ ap reached (seen-same (at t w))
      ∙ leaf-reached (view_from t (at t w)) _ _ _ x leaf (λ n z. shown-eq (other n z))

  pub slots-reached : reached_all t' ≡ reached_all t
  slots-reached = go (same-or-not (at t 3) 0)
    where
      go : (at t 3 ≡ 0) ⊎ (at t 3 ≢ 0) → reached_all t' ≡ reached_all t
      go (inl z) = all-one t' (low 3 (omega arith) ∙ z) ∙ ap (λ (l : List ℕ). l ++ []) (tree-same 1 (omega arith)) ∙ sym (all-one t z)
      go (inr z) =
          all-two t' (λ y. z (sym (low 3 (omega arith)) ∙ y))
          ∙ ap (λ (l : List ℕ). l ++ (reached (tree_at 3 t') ++ [])) (tree-same 1 (omega arith))
          ∙ ap (λ (l : List ℕ). reached (tree_at 1 t) ++ (l ++ [])) (tree-same 3 (omega arith)) ∙ sym (all-two t z)

-- ---- the stores

-- stores to a stretch of words change no word outside it
pub outside-apply : (a n : ℕ) (t : Words) (ss : List Store) (t' : Words) → Each (Into a n) ss → Outside a n t t'
    → Outside a n t (apply ss t')
unfolding apply
outside-apply a n t [] t' i o = o
outside-apply a n t (s ∷ ss) t' i o = outside-apply a n t ss (do_store s t') i.1 (outside-store a n t t' s i.0 o)

-- stores to the 12 slots of node x go to its 24 slot words
pub slots-into : (x : ℕ) (qs : List SlotStore) → Each (Below 12) qs → Each (Into (node_start x + 8) 24) (map (in_node x) qs)
slots-into x [] b = tt
slots-into x (q ∷ qs) b = (slot-into x q b.0, slots-into x qs b.1)

-- shifting a slot into node x, if there is room, goes to its 24 slot words
pub shift-in-into : (t : Words) (x k y : ℕ) → length (node_view t x).shown ≤ 10 → Each (Into (node_start x + 8) 24) (shift_in_at t x k y)
unfolding shift_in_at
shift-in-into t x k y few =
    let ss = (node_view t x).shown in
    slots-into x (shift_in (node_view t x).left ss (place_of k ss) k y)
    (shift-in-places (node_view t x).left ss (place_of k ss) k y 12 (place-length k ss) (omega arith))

module _ (t : Words) (x : ℕ) (some : 1 ≤ x) (leaf : (node t x).level ≡ 0) where
  outside : (ss : List Store) → Each (Into (node_start x + 8) 24) ss → Outside (node_start x + 8) 24 t (apply ss t)
  outside ss i = outside-apply (node_start x + 8) 24 t ss t i (outside-start (node_start x + 8) 24 t)

  into-reached : (ss : List Store) → Each (Into (node_start x + 8) 24) ss → reached_all (apply ss t) ≡ reached_all t
  into-reached ss i = slots-reached t (apply ss t) x some leaf (outside ss i)

  -- a pair shifted in, where there is room
  module _ (k y : ℕ) (room : length (node_view t x).shown ≤ 10) where
    -- shifting a slot into a leaf changes none of the nodes reached
    pub in-reached : reached_all (apply (shift_in_at t x k y) t) ≡ reached_all t
    in-reached = into-reached _ (shift-in-into t x k y room)

    -- shifting a slot into a leaf changes none of the unreachable nodes
    pub in-unreachable : unreachable (apply (shift_in_at t x k y) t) ≡ unreachable t
    unfolding unreachable unreached
    in-unreachable =
        ap (λ (l : List ℕ). filter (λ (m : ℕ). not (elem m l)) (numbers 1 (nodes (apply (shift_in_at t x k y) t)))) in-reached
        ∙ ap (λ (N : ℕ). filter (λ (m : ℕ). not (elem m (reached_all t))) (numbers 1 N))
        (low t _ x some leaf (outside _ (shift-in-into t x k y room)) 2 (omega arith))

  -- another class, where the key is
  pub class-reached : (k c : ℕ) → length (node_view t x).shown ≤ 11 → reached_all (apply (set_class_at t x k c) t) ≡ reached_all t
  unfolding set_class_at
  class-reached k c few = into-reached _ ((omega arith, omega (arith, place-length k (node_view t x).shown)), tt)

-- ---- the leaf for a key

-- it is on level 0, and shows at most 11 slots
pub record Leaf (t : Words) (x : ℕ) : Type 0 where
  pub some : 1 ≤ x
  pub level : (node t x).level ≡ 0
  pub few : length (node_view t x).shown ≤ 11

-- in an orderly tree the node for k on level 0 is a leaf with at most 11 slots shown
pub leaf-for : (n : ℕ) (t : Words) (k : ℕ) → Orderly (view_of n t) → Leaf t (standing n t 0 k)
unfolding standing_in
leaf-for n t k o =
    let c = (path-stands (view_of n t) k 0 o (omega arith)).covers in
    record { some = ((range-iff _ _).0 c.at.range).0; level = c.at.level; few = shown-few t _ (good-parts (view_of n t) _ c.good).0 }
