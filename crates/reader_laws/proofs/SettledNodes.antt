-- The nodes of a collection of a settled table that a write stores to: where they lie, and that shifts in them are steady.
use Rattle.std.proofs.Common.{◌≡◌, ℕ, suc, ◌+◌, ◌<◌, ◌≤◌, Bool, true, false, ◌≢◌, ◌⊎◌, List, [], ◌∷◌, ◌++◌, length, refl, ap, ◌∙◌, inl, inr}
use Rattle.std.proofs.Common.{arith, ltb-true}
use mathlib.Core.List.{Memᴰ}
use Rattle.model.specs.Table.{Words, at, node_start, root_word, no_collection}
use Rattle.model.specs.Slots.{node_view, view, view_of, height}
use Rattle.model.specs.Reached.{reached, map_of}
use Rattle.model.specs.SoundTest.{nothing, settled}
use Rattle.model.specs.Orders.{Store, put, apply}
use Rattle.model.specs.Shifts.{shift_out, place_of}
use Rattle.model.specs.Writes.{shift_out_at, child_before, free_stores, standing, frees_leaf, delete_settled}
use Rattle.model.specs.Refusals.{has_key}
use Rattle.list_laws.proofs.Tools.{Each, and-iff, same-or-not}
use Rattle.slot_laws.proofs.Places.{shift-out-places}
use Rattle.word_laws.proofs.Outside.{Into}
use Rattle.word_laws.proofs.ShiftViews.{shown-few}
use Rattle.step_laws.proofs.Standing.{standing-stands}
use Rattle.step_laws.proofs.Freeing.{Freeable}
use Rattle.step_laws.proofs.TreeAt.{Fine}
use Rattle.two_laws.proofs.TwoLaw.{taken, tree-fine, own-usable, own-other}
use Rattle.two_laws.proofs.Arrange.{arr-low}
use Rattle.two_laws.proofs.LeafStores.{slots-into}
use Rattle.two_laws.proofs.DeleteTwo.{can-free, stores-freeing, stores-plain}
use Rattle.two_laws.proofs.PartsTwo.{beside, tree, settled-plain, standing-reached, key-place, out-settled, out-there, parent-plain}
use Rattle.reader_laws.proofs.Values.{values_to, Steady, steady-one, steady-then, steady-after, inside-or-not, into-none, values-append}
use Rattle.reader_laws.proofs.ShiftValues.{shift-out-steady, none-put, one-put}

-- ---- the stores of a shift go to the node's slots

pub shift-out-into :
    (t : Words) (x k : ℕ) → length (node_view t x).shown ≤ 11 → place_of k (node_view t x).shown < length (node_view t x).shown
    → Each (Into (node_start x + 8) 24) (shift_out_at t x k)
unfolding shift_out_at
shift-out-into t x k few l =
    let ss = (node_view t x).shown in
    let qs = shift_out (node_view t x).left ss (place_of k ss) in
    slots-into x qs (shift-out-places (node_view t x).left ss (place_of k ss) 12 l (omega arith))

-- ---- a collection of a settled table

module _ (n : ℕ) (t : Words) (h : no_collection n t ≡ false) (s : settled t ≡ true) where
  pub own-fine : Fine (root_word n) (taken (beside n t h s).0 t) t nothing
  own-fine = tree-fine (root_word n) (beside n t h s).0 t
      (arr-low (root_word n) (beside n t h s).0 t (beside n t h s).1) nothing (tree n t h s)

  pub reached-some : (m : ℕ) → Memᴰ m (reached (view_of n t)) → 1 ≤ m
  reached-some m i = (own-other (root_word n) (beside n t h s).0 t nothing (tree n t h s) m i).some

  pub reached-few : (m : ℕ) → Memᴰ m (reached (view_of n t)) → length (node_view t m).shown ≤ 11
  reached-few m i = shown-few t m (own-usable (root_word n) (beside n t h s).0 t nothing (tree n t h s) m i).clear

  pub standing-level : (d k : ℕ) → d ≤ height (view_of n t) → (node_view t (standing n t d k)).level ≡ d
  standing-level d k l = (standing-stands (root_word n) (taken (beside n t h s).0 t) t own-fine k d l).covers.at.level

-- ---- deletion

module _ (n : ℕ) (t : Words) (h : no_collection n t ≡ false) (s : settled t ≡ true) (k : ℕ) (has : has_key k (map_of n t) ≡ true) where
  abbrev x : ℕ
  x = standing n t 0 k

  abbrev p : ℕ
  p = standing n t 1 k

  abbrev out : List Store
  out = shift_out_at t x k

  x-reached : Memᴰ x (reached (view_of n t))
  x-reached = standing-reached n t h s 0 k (omega arith)

  leaf-steady : (w : ℕ) → Steady (at t w) (values_to w out)
  leaf-steady w = shift-out-steady t x (settled-plain n t h s x x-reached) k (reached-few n t h s x x-reached) (key-place n t h s k has) w

  module _ (e : frees_leaf n t p x ≡ true) where
    abbrev t₁ : Words
    t₁ = apply out t

    abbrev fence : ℕ
    fence = (node_view t₁ x).fence

    -- the sibling word of the child before the leaf
    abbrev link : ℕ
    link = suc (node_start (child_before (view t₁) p x))

    freeable : Freeable (root_word n) (taken (beside n t h s).0 t₁) t₁ p x
    freeable = can-free n (beside n t h s).0 t (beside n t h s).1 (tree n t h s) k has e

    p-few : length (node_view t₁ p).shown ≤ 11
    p-few = reached-few n t₁ (out-there n t h s k has) (out-settled n t h s k has) p freeable.parent

    p-some : 1 ≤ p
    p-some = reached-some n t₁ (out-there n t h s k has) (out-settled n t h s k has) p freeable.parent

    not-same : x ≢ p
    unfolding frees_leaf
    not-same q =
        let high : 0 < height (view_of n t) = ltb-true 0 (height (view_of n t)) (simp and-iff at e).1.0 in
        omega (arith, standing-level n t h s 0 k (omega arith), standing-level n t h s 1 k high, ap (λ (m : ℕ). (node_view t m).level) q)

    parent-steady : (w : ℕ) → Steady (at t₁ w) (values_to w (shift_out_at t₁ p fence))
    parent-steady w = shift-out-steady t₁ p (parent-plain n t h s k has e) fence p-few freeable.there w

    parent-none : (w : ℕ) → (node_start p + 8 ≤ w → w < node_start p + 8 + 24 → ⊥) → values_to w (shift_out_at t₁ p fence) ≡ []
    parent-none w z = into-none (node_start p + 8) 24 w _ (shift-out-into t₁ p fence p-few freeable.there) z

    free-steady : (w : ℕ) → Steady (at t₁ w) (values_to w (free_stores t₁ p x))
    unfolding free_stores
    free-steady w = go (same-or-not link w)
      where
        go : (link ≡ w) ⊎ (link ≢ w) → Steady (at t₁ w) (values_to w (shift_out_at t₁ p fence ++ (put link (node_view t₁ x).sibling ∷ [])))
        go (inl q) =
            steady-after w (shift_out_at t₁ p fence) (put link (node_view t₁ x).sibling ∷ []) t₁
            (parent-none w (λ i j. unfold node_start in omega arith))
            (rw (one-put w (node_view t₁ x).sibling link q) (steady-one _ (node_view t₁ x).sibling))
        go (inr z) = steady-then w (at t₁ w) (shift_out_at t₁ p fence) (put link (node_view t₁ x).sibling ∷ [])
            (none-put w (node_view t₁ x).sibling link z) (parent-steady w)

    -- nothing of it goes to the leaf's slots
    free-none : (w : ℕ) → node_start x + 8 ≤ w → w < node_start x + 8 + 24 → values_to w (free_stores t₁ p x) ≡ []
    unfolding free_stores
    free-none w i j =
        values-append w (shift_out_at t₁ p fence) (put link (node_view t₁ x).sibling ∷ [])
        ∙ rw (
          parent-none w (λ a b. not-same (unfold node_start in omega (arith, p-some, reached-some n t h s x x-reached))),
          none-put w (node_view t₁ x).sibling link (λ q. unfold node_start in omega arith),
        )

    both-steady : (w : ℕ) → Steady (at t w) (values_to w (out ++ free_stores t₁ p x))
    both-steady w = go (inside-or-not (node_start x + 8) 24 w)
      where
        go : ((node_start x + 8 ≤ w) × (w < node_start x + 8 + 24)) ⊎ (node_start x + 8 ≤ w → w < node_start x + 8 + 24 → ⊥)
            → Steady (at t w) (values_to w (out ++ free_stores t₁ p x))
        go (inl i) = steady-then w (at t w) out (free_stores t₁ p x) (free-none w i.0 i.1) (leaf-steady w)
        go (inr z) = steady-after w out (free_stores t₁ p x) t
            (into-none (node_start x + 8) 24 w out (shift-out-into t x k (reached-few n t h s x x-reached) (key-place n t h s k has)) z)
            (free-steady w)

  -- Deletion: every word of the table is steady.
  pub delete-steady : (w : ℕ) → Steady (at t w) (values_to w (delete_settled n t k))
  delete-steady w = go (frees_leaf n t p x) refl
    where
      go : (b : Bool) → frees_leaf n t p x ≡ b → Steady (at t w) (values_to w (delete_settled n t k))
      go true e = rw (stores-freeing n t k e) (both-steady e w)
      go false e = rw (stores-plain n t k e) (leaf-steady w)
