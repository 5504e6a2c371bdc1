-- An accepted call leaves each node that it does not store to reached, or not reached, as it was.
use Rattle.std.proofs.Common.{◌≡◌, ℕ, zero, suc, ◌<◌, ◌≤◌, Bool, true, false, ◌≢◌, List, [], ◌∷◌, ◌++◌, length, sym, refl, ap, ◌∙◌, arith}
use Rattle.model.specs.Table.{Words, at, node_start, root_word, no_collection}
use Rattle.model.specs.Slots.{pointer_of, node_view, view_of, height}
use Rattle.model.specs.Reached.{reached_all, map_of}
use Rattle.model.specs.SoundTest.{elem, nothing, sound}
use Rattle.model.specs.Orders.{Store, apply}
use Rattle.model.specs.Shifts.{shift_out}
use Rattle.model.specs.Writes.{shift_in_at, shift_out_at, put_all, split, split_words, node_words, new_root, fresh, standing, run}
use Rattle.model.specs.Writes.{root_in_run, splits, root_stores, insert_settled, insert_stores}
use Rattle.model.specs.Writes.{frees_leaf, delete_settled, delete_stores, class_stores, repair_stores, repaired, Call, insertion, deletion}
use Rattle.model.specs.Writes.{class_change, repair, stores_of}
use Rattle.model.specs.Refusals.{has_key, too_high, too_few, refusal}
use Rattle.model.specs.Sentinels.{stores_to_node}
use Rattle.list_laws.proofs.Slots.{place-length}
use Rattle.tree_laws.proofs.Rows.{range-iff}
use Rattle.word_laws.proofs.NewNodes.{length-node-words}
use Rattle.cut_laws.proofs.Applying.{apply-append}
use Rattle.two_laws.specs.Parts.{Enters, split_for, Ready}
use Rattle.two_laws.proofs.TwoLaw.{Tree}
use Rattle.two_laws.proofs.Arrange.{Arr, arr-low, root-in, settled-tree, free-fresh}
use Rattle.two_laws.proofs.SplitTwo.{length-split}
use Rattle.two_laws.proofs.LeafStores.{in-reached, class-reached, Leaf, leaf-for}
use Rattle.two_laws.proofs.InsertTwo.{stands-reached, first-arr, ready-next, first-others, splits-course, splits-room, some-free}
use Rattle.two_laws.proofs.InsertTwo.{root-first, root-arr, first-root-others}
use Rattle.two_laws.proofs.DeleteTwo.{stores-freeing, settled-others, settled-stays}
use Rattle.two_laws.proofs.CallsTwo.{repairs, arranged, is-repaired}
use Rattle.two_laws.proofs.AcceptedTwo.{there, accepted-iff}
use Rattle.two_laws.proofs.JudgedTwo.{reached-later}
use Rattle.sentinel_laws.proofs.Unstored.{stored-cons, stored-append, node-of}

-- x is reached after these stores as before, if none goes to it
abbrev pub SameReach : ℕ → List Store → Words → Type 0
SameReach x ss t = stores_to_node ss x ≡ false → elem x (reached_all (apply ss t)) ≡ elem x (reached_all t)

same-exact : (x : ℕ) (ss : List Store) (t : Words) → reached_all (apply ss t) ≡ reached_all t → SameReach x ss t
same-exact x ss t e h = ap (elem x) e

same-append : (x : ℕ) (ss us : List Store) (t : Words) → SameReach x ss t → SameReach x us (apply ss t) → SameReach x (ss ++ us) t
same-append x ss us t f g h = let u =
    (stored-append ss us x).0 h in ap (λ (z : Words). elem x (reached_all z)) (apply-append ss us t) ∙ g u.1 ∙ f u.0

-- a node that is written whole is stored to
new-stored : (b : ℕ) (ws : Words) (us : List Store) (x : ℕ) → 1 ≤ b → 0 < length ws
    → stores_to_node (put_all (node_start b) ws ++ us) x ≡ false → x ≢ b
unfolding put_all
new-stored b [] us x some l h = absurd (omega arith)
new-stored b (w ∷ ws) us x some l h = λ e. ((stored-cons _ _ x).0 h).0 (e ∙ sym (node-of b (node_start b) some (omega arith) (omega arith)))

-- ---- the splits

splits-same : (m n : ℕ) (ws : List ℕ) (t : Words) (k x : ℕ) → Arr (root_word n) ws t → Ready m n t k → SameReach x (splits n m t k) t
unfolding splits apply
splits-same zero n ws t k x arr r = λ h. refl
splits-same (suc l) n ws t k x arr r =
    let a = standing n t l k in
    let b = fresh t a in
    let ss = split_for n t l k in
    let low = arr-low (root_word n) ws t arr in
    let f = settled-tree (root_word n) ws t arr r.settled in
    let free = free-fresh (root_word n) ws t a arr f (stands-reached n ws t low f k l (omega (arith, r.high))) (omega (arith, r.enough)) in
    let some = ((range-iff _ b).0 free.range).0 in
    same-append x ss (splits n l (apply ss t) k) t
    (λ h. first-others l n ws t k arr r x (unfold split in new-stored b (split_words t a) _ x some (omega (arith, length-split t a)) h))
    (splits-same l n ws (apply ss t) k x (first-arr l n ws t k arr r) (ready-next l n ws t k arr r))

-- ---- the new root, where the run includes the root

module _ (n : ℕ) (ws : List ℕ) (t : Words) (k : ℕ) (arr : Arr (root_word n) ws t) (f : Tree (root_word n) ws t nothing)
    (not-high : too_high n t k ≡ false) (enough : too_few n t k ≡ false) where
  new-root-same : root_in_run n t k ≡ true → (x : ℕ) → SameReach x (new_root n t) t
  new-root-same e x h =
      let b = fresh t (at t (root_word n)) in
      let some = ((range-iff _ b).0
      (free-fresh (root_word n) ws t (at t (root_word n)) arr f (root-in (view_of n t) f.left.orderly)
      (some-free n ws t k arr f not-high enough e)).range).0 in
      first-root-others n ws t k arr f not-high enough e x
      (unfold new_root in new-stored b (node_words _ 0 _ 0 []) _ x some
      (omega (arith, length-node-words (at t (root_word n)) 0 (suc (height (view_of n t))) 0 [])) h)

  root-same : (x : ℕ) → SameReach x (root_stores n t k) t
  unfolding root_stores apply
  root-same x = go (root_in_run n t k) refl
    where
      go : (b : Bool) → root_in_run n t k ≡ b → SameReach x (root_stores n t k) t
      go true e = rw (e, root_stores) (new-root-same e x)
      go false e = rw (e, root_stores) (λ h. refl)

-- ---- on a settled table

insert-same : (n : ℕ) (ws : List ℕ) (t : Words) (k r c x : ℕ) → Arr (root_word n) ws t → Tree (root_word n) ws t nothing → Enters n k r c t
    → SameReach x (insert_settled n t k (pointer_of r c)) t
unfolding insert_settled
insert-same n ws t k r c x arr f e =
    let m = run n t k in
    let t₁ = apply (root_stores n t k) t in
    let a = root-first n ws t k arr f e.not-high e.enough in
    let i = root-arr n ws t k arr f e.not-high e.enough in
    let t₂ = apply (splits n m t₁ k) t₁ in
    let leaf = leaf-for n t₂ k (splits-course m n ws t₁ k i a.1).whole.left.orderly in
    let y = standing n t₂ 0 k in
    same-append x (root_stores n t k) _ t (root-same n ws t k arr f e.not-high e.enough x)
    (same-append x (splits n m t₁ k) _ t₁ (splits-same m n ws t₁ k x i a.1)
    (same-exact x (shift_in_at t₂ y k (pointer_of r c)) t₂
    (in-reached t₂ y leaf.some leaf.level k (pointer_of r c) (splits-room m n ws t₁ k i a.1))))

-- the leaf that a deletion empties is stored to
out-stored : (t : Words) (x k : ℕ) (us : List Store) (y : ℕ) → Leaf t x → stores_to_node (shift_out_at t x k ++ us) y ≡ false → y ≢ x
unfolding shift_out_at shift_out
out-stored t x k us y l h e =
    ((stored-cons _ _ y).0 h).0 (e ∙ sym (node-of x _ l.some (omega arith) (omega (arith, l.few, place-length k (node_view t x).shown))))

delete-same : (n : ℕ) (ws : List ℕ) (t : Words) (k x : ℕ) → Arr (root_word n) ws t → Tree (root_word n) ws t nothing
    → has_key k (map_of n t) ≡ true → SameReach x (delete_settled n t k) t
delete-same n ws t k x arr f has = go (frees_leaf n t (standing n t 1 k) (standing n t 0 k)) refl
  where
    go : (b : Bool) → frees_leaf n t (standing n t 1 k) (standing n t 0 k) ≡ b → SameReach x (delete_settled n t k) t
    go true e h = settled-others n ws t arr f k has e x
        (out-stored t (standing n t 0 k) k _ x (leaf-for n t k f.left.orderly) (rw (stores-freeing n t k e) at h))
    go false e h = ap (elem x) (settled-stays n ws t arr f k has e)

-- ---- every call

module _ (t : Words) (s : sound t ≡ true) (x : ℕ) where
  repair-same : SameReach x (repair_stores t) t
  unfolding repaired
  repair-same h = ap (elem x) (reached-later t s)

  module _ (n : ℕ) (h : no_collection n t ≡ false) where
    beside : (ws : List ℕ) × Arr (root_word n) ws (repaired t)
    beside = arranged (root_word n) (repaired t) (is-repaired (root_word n) t s (there n t h).1)

    tree : Tree (root_word n) beside.0 (repaired t) nothing
    tree = settled-tree (root_word n) beside.0 (repaired t) beside.1 (repairs t s).settles

    then : (us : List Store) → SameReach x us (repaired t) → SameReach x (repair_stores t ++ us) t
    unfolding repaired
    then us g = same-append x (repair_stores t) us t repair-same g

pub reached-same : (x : Call) (words dock : ℕ) (t : Words) → refusal x words dock t ≡ 0 → (m : ℕ) → SameReach m (stores_of x t) t
unfolding stores_of insert_stores delete_stores class_stores
reached-same (insertion n k r c) words dock t ok m =
    let a = (accepted-iff (insertion n k r c) words dock t).0 ok in
    let b = beside t a.sound m n a.collection in
    then t a.sound m n a.collection _ (insert-same n b.0 (repaired t) k r c m b.1 (tree t a.sound m n a.collection) a.allows)
reached-same (deletion n k) words dock t ok m =
    let a = (accepted-iff (deletion n k) words dock t).0 ok in
    let b = beside t a.sound m n a.collection in
    then t a.sound m n a.collection _ (delete-same n b.0 (repaired t) k m b.1 (tree t a.sound m n a.collection) a.allows)
reached-same (class_change n k c) words dock t ok m =
    let a = (accepted-iff (class_change n k c) words dock t).0 ok in
    let leaf = leaf-for n (repaired t) k (tree t a.sound m n a.collection).left.orderly in
    then t a.sound m n a.collection _
    (same-exact m _ (repaired t) (class-reached (repaired t) (standing n (repaired t) 0 k) leaf.some leaf.level k c leaf.few))
reached-same repair words dock t ok m = repair-same t ((accepted-iff repair words dock t).0 ok).sound m
