-- A leaf freed, by the words that the code reads.
use Rattle.std.proofs.Common.{◌≡◌, ℕ, suc, ◌+◌, true, List, [], ◌∷◌, ◌++◌, sym, ap, ◌∙◌, arith}
use Rattle.model.specs.Table.{Words, node_start, has_node}
use Rattle.model.specs.Slots.{node_view, view}
use Rattle.model.specs.Orders.{Store, put}
use Rattle.model.specs.Writes.{shift_out_at, child_before, free_stores}
use Rattle.node.specs.Word.{start_of, word_of}
use Rattle.node.proofs.WordLaws.{word-sibling, word-fence}
use Rattle.shift.specs.declared.Opened.{Opened}
use Rattle.shift.specs.declared.Place.{Place}
use Rattle.shift.specs.Stores.{Opens, PlaceOf, slot_out}
use Rattle.shift.proofs.AtNode.{starts, before-as, shift-out-as}

-- the stores, by x's fence and sibling and the neighbour's first word, where p was read as o
module _ {t : Words} {p : ℕ} {o : Opened} (q : Opens t p o) (z : (node_view t p).hidden ≡ 0) where
  pub free-as : (x f s w : ℕ) (g : Place) → f ≡ word_of t x 3 → s ≡ word_of t x 1 → PlaceOf o f g → has_node t (child_before (view t) p x)
      ≡ true → w ≡ start_of t g.before
      → free_stores t p x ≡ slot_out o f ++ (put (w + 1) s ∷ [])
  unfolding free_stores
  free-as x f s w g ef es eg h ew =
      let b = child_before (view t) p x in
      let ea = before-as q z x f g ef eg in
      let first : suc (node_start b) ≡ w + 1 = omega (arith, starts t g.before w (rw ea h) ew ∙ ap node_start ea) in
      ap (λ (k : ℕ). shift_out_at t p k ++ (put (suc (node_start b)) (node_view t x).sibling ∷ [])) (sym (ef ∙ word-fence t x))
      ∙ ap (λ (y : ℕ). shift_out_at t p f ++ (put (suc (node_start b)) y ∷ [])) (sym (es ∙ word-sibling t x))
      ∙ ap (λ (n : ℕ). shift_out_at t p f ++ (put n s ∷ [])) first
      ∙ ap (λ (ss : List Store). ss ++ (put (w + 1) s ∷ [])) (shift-out-as q z f)
