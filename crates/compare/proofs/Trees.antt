-- The map of a sound tree: its pairs along the leaves, in order, with the slot of a key where its search ends.
use Rattle.std.proofs.Common.{◌≡◌, ℕ, ◌-◌, Bool, true, false, ◌≢◌, ◌⊎◌, List, get_or, sym, ap, ◌∙◌, inl, inr, arith}
use Rattle.std.specs.Prelude.{Option as Known}
use Rattle.model.specs.declared.Node.{Node}
use Rattle.model.specs.Table.{Words, node}
use Rattle.model.specs.Slots.{Slot, View, view_from, node_view, height, used}
use Rattle.model.specs.Search.{path, first_with}
use Rattle.model.specs.Reached.{mapping}
use Rattle.model.specs.SoundTest.{rising, sound_view}
use Rattle.model.specs.Writes.{standing_in}
use Rattle.tree_laws.proofs.Levels.{sound-orderly}
use Rattle.tree_laws.proofs.MapLaw.{map-rises}
use Rattle.tree_laws.proofs.SearchLaw.{leaf_for, leaf-mem, leaf-covers, path-leaf, range-first}
use Rattle.walk_laws.proofs.WalkLaw.{sound-in-order}
use Rattle.slots.specs.Scan.{shown_from}
use Rattle.slots.specs.Held.{held_by}
use Rattle.leaves.proofs.FoundLaws.{chain-mapping}
use Rattle.compare.specs.Along.{all_pairs}
use Rattle.compare.specs.Cursors.{same_but}
use Rattle.compare.specs.Pointers.{held, old_or_new}
use Rattle.compare.proofs.Maps.{not-own, not-new, as-old, as-new}

-- the pairs along the leaves are the map
pub all-mapping : (v : View) → sound_view v ≡ true → all_pairs v ≡ mapping v
all-mapping v s = chain-mapping v (sound-in-order v s)

-- the keys of a sound tree's map rise
pub map-rising : (v : View) → sound_view v ≡ true → rising 0 (mapping v) ≡ true
map-rising v s = (map-rises v (sound-orderly v s)).rising

-- the leaf n for k, which is x, holds the slot that the map has for k
pub leaf-held : (t : Words) (o k n : ℕ) (x : Node) (f : Known ℕ) → sound_view (view_from t o) ≡ true → n
    ≡ standing_in (view_from t o) 0 k → x ≡ node t n
    → f ≡ held_by (first_with k (shown_from x.left x.slots 0)) → f ≡ held k (mapping (view_from t o))
unfolding standing_in used
leaf-held t r k n x f s e q u =
    let v = view_from t r in
    let o = sound-orderly v s in
    let c = leaf-covers v k o in
    let d : height v - 0 ≡ height v = omega arith in
    let l : n ≡ leaf_for v k = e ∙ ap (λ (i : ℕ). get_or (path v k) i 0) d ∙ path-leaf v k o in
    u ∙ ap (λ (y : Node). held_by (first_with k (shown_from y.left y.slots 0))) q
    ∙ ap (λ (m : ℕ). held_by (first_with k (node_view t m).shown)) l
    ∙ ap held_by (sym (range-first v k (leaf_for v k) o (leaf-mem v k o) c.fence c.inside))

-- ---- an image's tree beside the table's, with the pointers that the two have for the key

module _ (u t : Words) (top root : ℕ) (own : Bool) (k : ℕ) (x : Known ℕ) (i : sound_view (view_from u top) ≡ true)
    (s : sound_view (view_from t root) ≡ true) (a b : Known ℕ)
    (after : a ≡ held k (mapping (view_from u top))) (before : b ≡ held k (mapping (view_from t root))) where
  abbrev old : List Slot
  old = mapping (view_from t root)

  abbrev ps : List Slot
  ps = mapping (view_from u top)

  changed : (a ≡ b → ⊥) → held k ps ≢ held k old
  changed z e = z (after ∙ e ∙ sym before)

  pub tree-fixed : (a ≡ b → ⊥) → own ≡ false → false ≡ old_or_new own k x (mapping (view_from t root)) (mapping (view_from u top))
  tree-fixed z e = rw e (not-own k x old ps (map-rising (view_from t root) s) (map-rising (view_from u top) i) (changed z))

  pub tree-other : (a ≡ b → ⊥) → (a ≡ x → ⊥) → false ≡ old_or_new own k x (mapping (view_from t root)) (mapping (view_from u top))
  tree-other z y = not-new k x old ps (map-rising (view_from t root) s) (map-rising (view_from u top) i) own
      (changed z) (λ e. y (after ∙ e))

  pub tree-same : (r : Bool) → r ≡ same_but k (all_pairs (view_from u top)) (all_pairs (view_from t root)) → (a ≡ b)
      ⊎ ((own ≡ true) × (a ≡ x))
      → r ≡ old_or_new own k x (mapping (view_from t root)) (mapping (view_from u top))
  tree-same r e h = rw (all-mapping (view_from u top) i, all-mapping (view_from t root) s) at e ∙ go h
    where
      go : (a ≡ b) ⊎ ((own ≡ true) × (a ≡ x)) → same_but k ps old ≡ old_or_new own k x old ps
      go (inl q) = as-old k x old ps (map-rising (view_from t root) s) (map-rising (view_from u top) i) own (sym after ∙ q ∙ before)
      go (inr q) = rw q.0 (as-new k x old ps (map-rising (view_from t root) s) (map-rising (view_from u top) i) (sym after ∙ q.1))
