-- One slot in use more: the slots left, from a slot on, and what any function of them comes to.
use Rattle.std.proofs.Common.{◌≡◌, ℕ, suc, ◌+◌, ◌*◌, ◌<◌, ◌≤◌, Bool, true, false, cond, not, ◌&&◌, eqb, List, [], ◌∷◌, length, drop, sym}
use Rattle.std.proofs.Common.{refl, ap, ◌∙◌, add-one, eq-eqb, ne_eqb, eqb-true}
use borrow.Author.Tests.{eqb-false}
use Rattle.model.specs.Table.{Words, at}
use Rattle.model.specs.Slots.{Slot, slot, slots_of, in_use, shown, hidden_slots}
use Rattle.model.specs.Reached.{filter}
use Rattle.list_laws.proofs.Filters.{filter-yes, filter-no}
use Rattle.table_laws.proofs.SlotWords.{slots-cons, slots-end}
use Rattle.slots.specs.Scan.{used_from}

in-use-stop : (k p : ℕ) (ss : List Slot) → p ≡ 0 → in_use (slot k p ∷ ss) ≡ []
unfolding in_use
in-use-stop k p ss e = rw (eq-eqb p 0 e, in_use)

in-use-more : (k p : ℕ) (ss : List Slot) → (p ≡ 0 → ⊥) → in_use (slot k p ∷ ss) ≡ slot k p ∷ in_use ss
unfolding in_use
in-use-more k p ss e = rw (ne_eqb p 0 e, in_use)

module _ (ws : Words) (i : ℕ) where
  pub used-past : length ws ≤ 2 * i + 1 → used_from ws i ≡ []
  unfolding in_use
  used-past h = rw (slots-end ws i h)

  module _ (h : 2 * i + 1 < length ws) where
    pub used-stop : at ws (2 * i + 1) ≡ 0 → used_from ws i ≡ []
    used-stop e = ap in_use (slots-cons ws i h) ∙ in-use-stop (at ws (2 * i)) (at ws (2 * i + 1)) (drop (suc i) (slots_of ws)) e

    pub used-more : (at ws (2 * i + 1) ≡ 0 → ⊥) → used_from ws i ≡ slot (at ws (2 * i)) (at ws (2 * i + 1)) ∷ used_from ws (i + 1)
    used-more e =
        rw (add-one i) (ap in_use (slots-cons ws i h) ∙ in-use-more (at ws (2 * i)) (at ws (2 * i + 1)) (drop (suc i) (slots_of ws)) e)

-- A loop over the slots keeps that F, what the present state and the slots left come to, is x. With none left, F of none is x. With a slot
-- more, what that slot and those after it come to is x: the answer at this slot, or F of the next state.
module _ {A : Type 0} (F : List Slot → A) (ws : Words) (i : ℕ) {x : A} (keeps : F (used_from ws i) ≡ x) where
  -- past the last words F of no slots is what it was of the slots from i on
  pub scan-past : length ws ≤ 2 * i + 1 → F [] ≡ x
  scan-past h = sym (ap F (used-past ws i h)) ∙ keeps

  module _ (h : 2 * i + 1 < length ws) where
    -- at a pointer 0 F of no slots is what it was of the slots from i on
    pub scan-stop : at ws (2 * i + 1) ≡ 0 → F [] ≡ x
    scan-stop e = sym (ap F (used-stop ws i h e)) ∙ keeps

    -- at a pointer that is not 0 the slots from i on are that slot, then those from i + 1 on
    pub scan-more : (at ws (2 * i + 1) ≡ 0 → ⊥) → {y : A} → F (slot (at ws (2 * i)) (at ws (2 * i + 1)) ∷ used_from ws (i + 1)) ≡ y → y ≡ x
    scan-more e q = sym (ap F (used-more ws i h e) ∙ q) ∙ keeps

-- ---- shown and hidden, one slot more

module _ (before : ℕ) (s : Slot) (ss : List Slot) where
  -- a first slot whose pointer equals the one before it is not shown
  pub shown-hide : s.pointer ≡ before → shown before (s ∷ ss) ≡ shown s.pointer ss
  unfolding shown
  shown-hide h = rw (eq-eqb s.pointer before h, shown)

  -- a first slot whose pointer differs from the one before it is shown
  pub shown-show : (s.pointer ≡ before → ⊥) → shown before (s ∷ ss) ≡ s ∷ shown s.pointer ss
  unfolding shown
  shown-show h = rw (ne_eqb s.pointer before h, shown)

  pub hidden-hide : s.pointer ≡ before → hidden_slots before (s ∷ ss) ≡ s ∷ hidden_slots s.pointer ss
  unfolding hidden_slots
  hidden-hide h = rw (eq-eqb s.pointer before h, hidden_slots)

  pub hidden-show : (s.pointer ≡ before → ⊥) → hidden_slots before (s ∷ ss) ≡ hidden_slots s.pointer ss
  unfolding hidden_slots
  hidden-show h = rw (ne_eqb s.pointer before h, hidden_slots)

-- the shown slots that pass a test: s comes first among them exactly if it is shown and passes
pub picked : (t : Slot → Bool) (before : ℕ) (s : Slot) (ss : List Slot)
    → filter t (shown before (s ∷ ss))
    ≡ cond (not (eqb s.pointer before) && t s) (s ∷ filter t (shown s.pointer ss)) (filter t (shown s.pointer ss))
picked t before s ss = go (eqb s.pointer before) (t s) refl refl
  where
    go : (a b : Bool) → eqb s.pointer before ≡ a → t s ≡ b
        → filter t (shown before (s ∷ ss)) ≡ cond (not a && b) (s ∷ filter t (shown s.pointer ss)) (filter t (shown s.pointer ss))
    go true b e q = ap (filter t) (shown-hide before s ss (eqb-true s.pointer before e))
    go false true e q = ap (filter t) (shown-show before s ss (eqb-false s.pointer before e)) ∙ filter-yes t s (shown s.pointer ss) q
    go false false e q = ap (filter t) (shown-show before s ss (eqb-false s.pointer before e)) ∙ filter-no t s (shown s.pointer ss) q
