-- The parts of a write of collection n on a settled table: the nodes that it reads and stores to, the run that is split, the leaf that is
-- freed.
use Rattle.std.proofs.Common.{◌≡◌, ℕ, suc, ◌*◌, ◌<◌, ◌≤◌, Bool, true, false, ◌≢◌, List, length, sym, refl, ap, ◌∙◌, arith}
use mathlib.Core.Bool.{false≢true}
use mathlib.Core.List.{Memᴰ}
use Rattle.model.specs.Table.{Words, at, has_node, root_word, no_collection}
use Rattle.model.specs.Slots.{node_view, view, height, view_of}
use Rattle.model.specs.Reached.{reached, reached_all, map_of}
use Rattle.model.specs.SoundTest.{elem, nothing, settled}
use Rattle.model.specs.Orders.{Store, apply}
use Rattle.model.specs.Shifts.{place_of}
use Rattle.model.specs.Writes.{shift_in_at, shift_out_at, child_before, unreachable, new_root, fresh, standing, run, root_in_run, splits}
use Rattle.model.specs.Writes.{root_stores, frees_leaf}
use Rattle.model.specs.Refusals.{has_key, too_high, too_few}
use Rattle.list_laws.proofs.Members.{each-mem}
use Rattle.table_laws.proofs.Nodes.{has-node-head}
use Rattle.two_laws.specs.Parts.{split_for, Splittable, Ready}
use Rattle.two_laws.proofs.TwoLaw.{Tree, Low, Course, own-usable}
use Rattle.two_laws.proofs.Leaf.{leaf-place, leaf-out}
use Rattle.two_laws.proofs.Arrange.{Arr, arr-low, arr-there, root-in, tree-settled, settled-tree, free-fresh, free-off, course-arr}
use Rattle.two_laws.proofs.LeafStores.{in-reached, leaf-for}
use Rattle.two_laws.proofs.DeleteTwo.{p-reached, before-reached, can-free}
use Rattle.two_laws.proofs.InsertTwo.{stands-reached, ready-next, first-others, splits-course, splits-room, some-free, root-first}
use Rattle.two_laws.proofs.InsertTwo.{first-root-others}
use Rattle.two_laws.proofs.CallsTwo.{arranged}
use Rattle.two_laws.proofs.AcceptedTwo.{there}

-- ---- what is reached stays so

-- after these stores, whatever was reached before them
abbrev pub Stays : List Store → Words → Type 0
Stays ss t = (x : ℕ) → elem x (reached_all t) ≡ true → elem x (reached_all (apply ss t)) ≡ true

-- where of all nodes but a free one the same are reached
but-free : (ss : List Store) (t : Words) (b : ℕ) → elem b (reached_all t) ≡ false
    → ((x : ℕ) → x ≢ b → elem x (reached_all (apply ss t)) ≡ elem x (reached_all t)) → Stays ss t
but-free ss t b off same x e = same x (λ q. false≢true (sym off ∙ ap (λ (y : ℕ). elem y (reached_all t)) (sym q) ∙ e)) ∙ e

-- ---- a settled table

-- a node that lies in the table and hides nothing
pub record Plain (t : Words) (m : ℕ) : Type 0 where
  pub there : has_node t m ≡ true
  pub plain : (node_view t m).hidden ≡ 0

module _ (n : ℕ) (t : Words) (h : no_collection n t ≡ false) (s : settled t ≡ true) where
  abbrev w : ℕ
  w = root_word n

  -- the root words of the collections beside n
  pub beside : (ws : List ℕ) × Arr (root_word n) ws t
  beside = arranged w t (there n t h).1

  low : Low w beside.0
  low = arr-low w beside.0 t beside.1

  -- in a settled table the tree of collection n is settled, beside the others
  pub tree : Tree (root_word n) beside.0 t nothing
  tree = settled-tree w beside.0 t beside.1 s

  -- in a settled table a node that the collection reaches lies in the table and hides nothing
  pub settled-plain : (m : ℕ) → Memᴰ m (reached (view_of n t)) → Plain t m
  settled-plain m i = record {
    there = (own-usable w beside.0 t nothing tree m i).there;
    plain = each-mem (λ (m : ℕ). (node_view t m).hidden ≡ 0) tree.left.left.0 i;
  }

  -- in a settled table the root of a collection is reached
  pub root-reached : Memᴰ (at t (root_word n)) (reached (view_of n t))
  root-reached = root-in (view_of n t) tree.left.orderly

  -- in a settled table the node that the search for k stands on, on a level of the tree, is reached
  pub standing-reached : (d k : ℕ) → d ≤ height (view_of n t) → Memᴰ (standing n t d k) (reached (view_of n t))
  standing-reached d k i = stands-reached n beside.0 t low tree k d i

  -- the fresh node after a reached one lies in the table
  pub fresh-there : (a : ℕ) → Memᴰ a (reached (view_of n t)) → 0 < length (unreachable t) → has_node t (fresh t a) ≡ true
  fresh-there a m i = has-node-head t (fresh t a) tree.head ∙ (free-fresh w beside.0 t a beside.1 tree m i).range

  -- ---- the new root, where the run includes the root

  -- the old root and all below it stay reached
  pub root-stays : (k : ℕ) → too_high n t k ≡ false → too_few n t k ≡ false → Stays (root_stores n t k) t
  unfolding root_stores apply
  root-stays k a b = go (root_in_run n t k) refl
    where
      go : (c : Bool) → root_in_run n t k ≡ c → Stays (root_stores n t k) t
      go true e =
          let free = free-fresh w beside.0 t (at t w) beside.1 tree root-reached (some-free n beside.0 t k beside.1 tree a b e) in
          rw (e, root_stores) (but-free (new_root n t) t _ (free-off w beside.0 t _ beside.1 free)
          (first-root-others n beside.0 t k beside.1 tree a b e))
      go false e = rw (e, root_stores) (λ x q. q)

  -- after the new root, if one is needed, all is ready for the splits of the run
  pub root-ready : (k : ℕ) → too_high n t k ≡ false → too_few n t k ≡ false → Ready (run n t k) n (apply (root_stores n t k) t) k
  root-ready k a b = (root-first n beside.0 t k beside.1 tree a b).1

-- ---- the run, split from the highest down

module _ (m n : ℕ) (t : Words) (k : ℕ) (r : Ready m n t k) where
  abbrev ws : List ℕ
  ws = (beside n t r.collection r.settled).0

  run-arr : Arr (root_word n) ws t
  run-arr = (beside n t r.collection r.settled).1

  split : Course (m * 67) (root_word n) ws t (splits n m t k) (map_of n t)
  split = splits-course m n ws t k run-arr r

  split-arr : Arr (root_word n) ws (apply (splits n m t k) t)
  split-arr = course-arr (m * 67) (root_word n) ws t _ _ split run-arr

  -- Splitting it leaves a settled table, with the same collections.
  pub splits-settled : settled (apply (splits n m t k) t) ≡ true
  splits-settled = tree-settled (root_word n) ws _ split-arr split.whole

  -- after the splits the collection is still there
  pub splits-there : no_collection n (apply (splits n m t k) t) ≡ false
  splits-there = arr-there n ws _ split-arr

  -- A pair shifted in at the leaf for the key, which has room then, leaves what is reached.
  pub in-same : (y : ℕ) → let t₂ =
      apply (splits n m t k) t in reached_all (apply (shift_in_at t₂ (standing n t₂ 0 k) k y) t₂) ≡ reached_all t₂
  in-same y =
      let t₂ = apply (splits n m t k) t in
      let leaf = leaf-for n t₂ k split.whole.left.orderly in
      in-reached t₂ (standing n t₂ 0 k) leaf.some leaf.level k y (splits-room m n ws t k run-arr r)

module _ (l n : ℕ) (t : Words) (k : ℕ) (r : Ready (suc l) n t k) where
  here : Arr (root_word n) (beside n t r.collection r.settled).0 t
  here = run-arr (suc l) n t k r

  -- the highest of them can be split, and then the rest is ready
  pub ready-first : Splittable n t k l
  ready-first = record {
    collection = r.collection;
    settled = r.settled;
    node = record { high = r.high; full = r.full l (omega arith); roomy = r.above };
    some = omega (arith, r.enough);
  }

  -- after the highest of l + 1 splits, all is ready for the other l
  pub ready-later : Ready l n (apply (split_for n t l k) t) k
  ready-later = ready-next l n _ t k here r

  -- whatever was reached before a split is reached after it
  pub split-stays : Stays (split_for n t l k) t
  split-stays =
      let free = free-fresh (root_word n) _ t (standing n t l k) here (tree n t r.collection r.settled)
      (standing-reached n t r.collection r.settled l k (omega (arith, r.high))) (omega (arith, r.enough)) in
      but-free (split_for n t l k) t _ (free-off (root_word n) _ t _ here free) (first-others l n _ t k here r)

-- ---- the slot of a key, and the leaf freed after the shift out

module _ (n : ℕ) (t : Words) (h : no_collection n t ≡ false) (s : settled t ≡ true) (k : ℕ) (has : has_key k (map_of n t) ≡ true) where
  abbrev t₁ : Words
  t₁ = apply (shift_out_at t (standing n t 0 k) k) t

  abbrev rest : List ℕ
  rest = (beside n t h s).0

  abbrev arr : Arr (root_word n) rest t
  arr = (beside n t h s).1

  -- the leaf shows k at its place
  pub key-place : place_of k (node_view t (standing n t 0 k)).shown < length (node_view t (standing n t 0 k)).shown
  key-place = leaf-place (root_word n) rest t (low n t h s) (tree n t h s) k has

  out : Tree (root_word n) rest t₁ nothing
  out = (leaf-out (root_word n) rest t (low n t h s) (tree n t h s) k has).whole

  -- the shift out leaves a settled table, with the same collections
  arr₁ : Arr (root_word n) rest t₁
  arr₁ = course-arr 25 (root_word n) rest t _ _ (leaf-out (root_word n) rest t (low n t h s) (tree n t h s) k has) arr

  -- after k is shifted out of its leaf the table is settled
  pub out-settled : settled (apply (shift_out_at t (standing n t 0 k) k) t) ≡ true
  out-settled = tree-settled (root_word n) rest t₁ arr₁ out

  -- after k is shifted out of its leaf the collection is still there
  pub out-there : no_collection n (apply (shift_out_at t (standing n t 0 k) k) t) ≡ false
  out-there = arr-there n rest t₁ arr₁

  module _ (e : frees_leaf n t (standing n t 1 k) (standing n t 0 k) ≡ true) where
    -- after k is shifted out of a leaf that is to be freed, its parent lies in the table and hides nothing
    pub parent-plain : Plain (apply (shift_out_at t (standing n t 0 k) k) t) (standing n t 1 k)
    parent-plain = settled-plain n t₁ out-there out-settled (standing n t 1 k)
        (p-reached (root_word n) rest t₁ (low n t h s) out (standing n t 1 k) (standing n t 0 k)
        (can-free n rest t arr (tree n t h s) k has e))

    -- after k is shifted out of a leaf that is to be freed, the leaf before it under its parent lies in the table
    pub neighbour-there :
        (let t₁ = apply (shift_out_at t (standing n t 0 k) k) t in has_node t₁
        (child_before (view t₁) (standing n t 1 k) (standing n t 0 k)) ≡ true)
    neighbour-there =
        (settled-plain n t₁ out-there out-settled _
        (before-reached (root_word n) rest t₁ (low n t h s) out (standing n t 1 k) (standing n t 0 k)
        (can-free n rest t arr (tree n t h s) k has e))).there
