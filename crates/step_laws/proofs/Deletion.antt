-- The shift out of a leaf's only slot: the leaf can be freed then.
use Rattle.std.proofs.Common.{◌≡◌, ℕ, zero, suc, ◌<◌, true, ◌≢◌, List, [], ◌∷◌, ◌++◌, length, get_or, take, drop, refl, ap, ◌∙◌, arith}
use Rattle.model.specs.Table.{Words}
use Rattle.model.specs.Slots.{Slot, slot, View, node_view, height}
use Rattle.model.specs.Orders.{apply}
use Rattle.model.specs.Shifts.{place_of}
use Rattle.model.specs.Writes.{shift_out_at}
use Rattle.model.specs.Refusals.{has_key}
use Rattle.model.specs.Ledger.{leave}
use Rattle.view_laws.proofs.NodeViews.{level_of, shown_of}
use Rattle.list_laws.proofs.Members.{mem-here}
use Rattle.word_laws.proofs.ShiftViews.{without_slot}
use Rattle.change_laws.proofs.Updates.{update-at, update-off, with_shown}
use Rattle.change_laws.proofs.Parents.{Parent}
use Rattle.change_laws.proofs.Detach.{child-slot}
use Rattle.step_laws.proofs.Phase.{Phase}
use Rattle.step_laws.proofs.LeafShift.{leaf-shift-out, leaf-out-seen, leaf-out-reached, leaf-out-place}
use Rattle.step_laws.proofs.Standing.{standing-stands, standing-parent}
use Rattle.step_laws.proofs.Freeing.{Freeable}
use Rattle.model.specs.SoundTest.{nothing}
use Rattle.step_laws.proofs.TreeAt.{tree_at, Fine, map_at, standing_at}

-- one slot, taken out
out-one : (ss : List Slot) (i : ℕ) → length ss ≡ 1 → i < length ss → take i ss ++ drop (suc i) ss ≡ []
out-one [] i e h = absurd (omega arith)
out-one (s ∷ []) zero e h = refl
out-one (s ∷ []) (suc i) e h = absurd (omega arith)
out-one (s ∷ r ∷ ss) i e h = absurd (omega arith)

slot-same : (x : ℕ) {f f' : ℕ} {ss ss' : List Slot} → f' ≡ f → ss' ≡ ss → (place_of f ss < length ss)
    × ((get_or ss (place_of f ss) (slot 0 0)).pointer ≡ x)
    → (place_of f' ss' < length ss') × ((get_or ss' (place_of f' ss') (slot 0 0)).pointer ≡ x)
slot-same x e q h = rw (e, q) h

-- what it says that a leaf is freed
pub record Frees (w : ℕ) (t : Words) (p x : ℕ) : Type 0 where
  pub one : length (node_view t x).shown ≡ 1
  pub high : 0 < height (tree_at w t)
  pub not-left : (node_view t p).left ≢ x

module _ (w : ℕ) (ns : List ℕ) where
  module _ (t : Words) (s : Fine w ns t nothing) (k : ℕ) (has : has_key k (map_at w t) ≡ true) where
    abbrev v : View
    v = tree_at w t

    abbrev x : ℕ
    x = standing_at w t 0 k

    abbrev p : ℕ
    p = standing_at w t 1 k

    abbrev t₁ : Words
    t₁ = apply (shift_out_at t x k) t

    out : Phase w ns 25 t (shift_out_at t x k) (leave k (map_at w t))
    out = leaf-shift-out w ns t s k has

    seen : tree_at w t₁ ≡ with_shown v x (without_slot t x k)
    seen = leaf-out-seen w ns t s k has

    -- ---- the leaf is emptied, and not leftmost

    module _ (f : Frees w t (standing_at w t 1 k) (standing_at w t 0 k)) where
      parent : Parent v x p
      parent = standing-parent w ns t s k 0 f.high

      level-p : (v.node p).level ≡ 1
      level-p = (standing-stands w ns t s k 1 f.high).covers.at.level

      level-x : (v.node x).level ≡ 0
      level-x = (standing-stands w ns t s k 0 (omega arith)).covers.at.level

      other : p ≢ x
      other e = omega (arith, level-p, level-x, ap (level_of v) e)

      none-left : without_slot t x k ≡ []
      none-left = out-one (v.node x).shown (place_of k (v.node x).shown) f.one (leaf-out-place w ns t s k has)

      same-p : (node_view t₁ p).shown ≡ (v.node p).shown
      same-p = ap (λ (w : View). (w.node p).shown) seen ∙ update-off (shown_of v) x (without_slot t x k) p other

      placed : (place_of (v.node x).fence (v.node p).shown < length (v.node p).shown)
          × ((get_or (v.node p).shown (place_of (v.node x).fence (v.node p).shown) (slot 0 0)).pointer ≡ x)
      placed = child-slot v 0 p x s.left parent.p-reached level-p
          (rw parent.once.shape (mem-here x parent.once.before parent.once.after)) f.not-left

      -- after k is shifted out of a leaf with one slot that is not leftmost, the leaf can be freed
      pub freeable : Freeable w ns (apply (shift_out_at t (standing_at w t 0 k) k) t) (standing_at w t 1 k) (standing_at w t 0 k)
      freeable =
          let u = slot-same x (ap (λ (w : View). (w.node x).fence) seen) same-p placed in
          record {
            settled = out.settles;
            parent = rw (leaf-out-reached w ns t s k has) parent.p-reached;
            level = ap (λ (w : View). (w.node p).level) seen ∙ level-p;
            there = u.0;
            child = u.1;
            empty = ap (λ (w : View). (w.node x).shown) seen ∙ update-at (shown_of v) x (without_slot t x k) ∙ none-left;
          }
