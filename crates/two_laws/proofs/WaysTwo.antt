-- What each level of each tree does over the stores of an accepted call on a settled table.
use Rattle.std.proofs.Common.{◌≡◌, ℕ, true, false, ◌≢◌, ◌⊎◌, List, [], ap, inl, inr}
use Rattle.model.specs.Table.{Words, root_word, no_collection}
use Rattle.model.specs.SoundTest.{settled}
use Rattle.model.specs.Orders.{Store, apply}
use Rattle.model.specs.Refusals.{seventeen_in}
use Rattle.model.specs.Writes.{insert_stores, delete_stores, class_stores, repaired, Call, insertion, deletion, class_change, repair}
use Rattle.model.specs.Writes.{stores_of}
use Rattle.list_laws.proofs.Tools.{same-or-not}
use Rattle.step_laws.proofs.Rowwise.{none-straight}
use Rattle.step_laws.proofs.LevelCourses.{Quiet, Way, quiet-nil}
use Rattle.step_laws.proofs.TreeAt.{tree_at}
use Rattle.two_laws.proofs.LevelsTwo.{Ways, quiet-ways}
use Rattle.two_laws.proofs.Leaf.{leaf-class-all}
use Rattle.two_laws.proofs.Arrange.{Arr, arr-low, settled-tree}
use Rattle.two_laws.proofs.DeleteTwo.{delete-ways}
use Rattle.two_laws.proofs.InsertTwo.{insert-ways}
use Rattle.two_laws.proofs.CallsTwo.{Is, arr-other, arranged, settled-repair}
use Rattle.two_laws.proofs.AcceptedTwo.{Allows}
use Rattle.two_laws.proofs.PartsTwo.{beside, tree}

repaired-same : (t : Words) → settled t ≡ true → repaired t ≡ t
unfolding repaired apply
repaired-same t s = ap (λ (ss : List Store). apply ss t) (settled-repair t s)

module _ (t : Words) (s : settled t ≡ true) where
  -- of any tree
  tree-way : (w : ℕ) (ws : List ℕ) (ss : List Store) → Arr w ws t → Ways w ws t ss → (x : ℕ) → Is x t → (l : ℕ) → Way (tree_at x) l t ss
  tree-way w ws ss r q x i l = go (same-or-not x w)
    where
      go : (x ≡ w) ⊎ (x ≢ w) → Way (tree_at x) l t ss
      go (inl e) = rw e (q.0 l)
      go (inr z) = inl (inl (arr-other w ws t x (λ (x : ℕ). (l : ℕ) → Quiet (tree_at x) l t ss) r i z q.1 l))

  -- of the collection that a call names
  module _ (n : ℕ) (h : no_collection n t ≡ false) where
    named-way : (ss : List Store) → Ways (root_word n) (beside n t h s).0 t ss → (x : ℕ) → Is x t → (l : ℕ) → Way (tree_at x) l t ss
    named-way ss q = tree-way (root_word n) (beside n t h s).0 ss (beside n t h s).1 q

  no-way : (x : ℕ) → Is x t → (l : ℕ) → Way (tree_at x) l t []
  no-way x i l = let a =
      arranged x t i in inl (inl (quiet-nil (tree_at x) l t (none-straight (tree_at x t) (settled-tree x a.0 t a.1 s).left.left.2 l)))

  -- over the stores of an accepted call each level of each tree does one of the things that a level may do
  pub call-ways : (c : Call) → seventeen_in c t ≡ false → Allows c (repaired t) → (x : ℕ) → Is x t → (l : ℕ)
      → Way (tree_at x) l t (stores_of c t)
  unfolding stores_of insert_stores delete_stores class_stores
  call-ways (insertion n k r c) h a =
      rw (settled-repair t s, repaired-same t s)
      (named-way n h _ (insert-ways n (beside n t h s).0 t k r c (beside n t h s).1 (tree n t h s) (rw (repaired-same t s) at a)))
  call-ways (deletion n k) h a =
      rw (settled-repair t s, repaired-same t s)
      (named-way n h _ (delete-ways n (beside n t h s).0 t (beside n t h s).1 (tree n t h s) k (rw (repaired-same t s) at a)))
  call-ways (class_change n k c) h a =
      let w = root_word n in
      let ws = (beside n t h s).0 in
      let q = rw (repaired-same t s) at a in
      rw (settled-repair t s, repaired-same t s)
      (named-way n h _ (quiet-ways w ws t _ (leaf-class-all w ws t (arr-low w ws t (beside n t h s).1) (tree n t h s) k q.1 c q.0)))
  call-ways repair h a = rw (settled-repair t s) no-way
