-- The ways from a node, one slot at a time: for the code's stack of nodes and next ways, and for its loop over a leaf's slots.
use Rattle.std.proofs.Common.{◌≡◌, ℕ, zero, suc, pred, ◌<◌, ◌≤◌, true, false, ◌≢◌, List, [], ◌∷◌, ◌++◌, map, get_or, drop, sym, refl, ap}
use Rattle.std.proofs.Common.{◌∙◌, arith, drop_of_length-le, eq-eqb, ne_eqb}
use Rattle.model.specs.Table.{Words, node}
use Rattle.model.specs.Slots.{Slot, slot, node_view, slots_of, in_use, used}
use Rattle.model.specs.Reached.{filter}
use Rattle.list_laws.proofs.Filters.{filter-yes, filter-no}
use Rattle.list_laws.proofs.Tools.{leb-iff}
use Rattle.model.specs.Salvage.{Placed, Meeting, meet, shown_at, in_reach, followed, meetings}
use Rattle.tour_laws.specs.Walk.{slot_at, placed_at, before, slots_from, onward, ways_from}
use Rattle.list_laws.proofs.Slots.{pairs-count}
use Rattle.tour_laws.proofs.Ends.{node-slots}
use Rattle.tour_laws.proofs.Meets.{meetings-leaf, meetings-inner}

drop-next : (d : Slot) (j : ℕ) (ss : List Slot) → get_or ss j d ≢ d → drop j ss ≡ get_or ss j d ∷ drop (suc j) ss
drop-next d j [] h = absurd (h (past d j))
  where
    past : (d : Slot) (j : ℕ) → get_or [] j d ≡ d
    past d zero = refl
    past d (suc j) = refl
drop-next d zero (s ∷ ss) h = refl
drop-next d (suc j) (s ∷ ss) h = drop-next d j ss h

use-none : (j : ℕ) (ss : List Slot) → (get_or ss j (slot 0 0)).pointer ≡ 0 → in_use (drop j ss) ≡ []
unfolding in_use
use-none zero [] h = refl
use-none zero (s ∷ ss) h = rw (eq-eqb s.pointer 0 h, in_use)
use-none (suc j) [] h = refl
use-none (suc j) (s ∷ ss) h = use-none j ss h

use-some : (s : Slot) (ss : List Slot) → s.pointer ≢ 0 → in_use (s ∷ ss) ≡ s ∷ in_use ss
unfolding in_use
use-some s ss h = rw (ne_eqb s.pointer 0 h, in_use)

shown-hidden : (p i : ℕ) (s : Slot) (ss : List Slot) → s.pointer ≡ p → shown_at p i (s ∷ ss) ≡ shown_at s.pointer (suc i) ss
unfolding shown_at
shown-hidden p i s ss e = rw (eq-eqb s.pointer p e, shown_at)

shown-next : (p i : ℕ) (s : Slot) (ss : List Slot) → s.pointer ≢ p → shown_at p i (s ∷ ss) ≡ record { place = i; slot = s }
    ∷ shown_at s.pointer (suc i) ss
unfolding shown_at
shown-next p i s ss e = rw (ne_eqb s.pointer p e, shown_at)

module _ (t : Words) (n : ℕ) where
  -- the slots followed are those from place 0 on
  pub slots-first : followed t n ≡ slots_from t n 0
  unfolding followed slots_from used
  slots-first = refl

  -- from a slot with pointer 0 on no slot is followed
  pub slots-end : (j : ℕ) → (slot_at t n j).pointer ≡ 0 → slots_from t n j ≡ []
  unfolding slots_from shown_at filter
  slots-end j h = ap (λ (l : List Slot). filter (in_reach t n) (shown_at (before t n j) j l)) (use-none j (slots_of (node t n).slots) h)

  open-slot : (j : ℕ) → (slot_at t n j).pointer ≢ 0 → in_use (drop j (slots_of (node t n).slots)) ≡ slot_at t n j
      ∷ in_use (drop (suc j) (slots_of (node t n).slots))
  open-slot j h = ap in_use (drop-next (slot 0 0) j (slots_of (node t n).slots) (λ e. h (ap (λ (s : Slot). s.pointer) e)))
      ∙ use-some (slot_at t n j) _ h

  -- a hidden slot is passed over
  pub slots-hidden : (j : ℕ) → (slot_at t n j).pointer ≢ 0 → (slot_at t n j).pointer ≡ before t n j → slots_from t n j
      ≡ slots_from t n (suc j)
  unfolding slots_from
  slots-hidden j h e =
      ap (λ (l : List Slot). filter (in_reach t n) (shown_at (before t n j) j l)) (open-slot j h)
      ∙ ap (filter (in_reach t n)) (shown-hidden (before t n j) j (slot_at t n j) _ e)

  shown-slot : (j : ℕ) → (slot_at t n j).pointer ≢ 0 → (slot_at t n j).pointer ≢ before t n j
      → slots_from t n j ≡ filter (in_reach t n)
      (placed_at t n j ∷ shown_at (before t n (suc j)) (suc j) (in_use (drop (suc j) (slots_of (node t n).slots))))
  unfolding slots_from
  shown-slot j h e = ap (λ (l : List Slot). filter (in_reach t n) (shown_at (before t n j) j l)) (open-slot j h)
      ∙ ap (filter (in_reach t n)) (shown-next (before t n j) j (slot_at t n j) _ e)

  -- a shown slot that is not below the sibling's fence is passed over
  pub slots-ignored : (j : ℕ) → (slot_at t n j).pointer ≢ 0 → (slot_at t n j).pointer ≢ before t n j → in_reach t n (placed_at t n j)
      ≡ false → slots_from t n j ≡ slots_from t n (suc j)
  slots-ignored j h e c = shown-slot j h e ∙ (unfold slots_from in filter-no (in_reach t n) (placed_at t n j) _ c)

  -- a shown slot below the sibling's fence is followed, then those after it
  pub slots-next : (j : ℕ) → (slot_at t n j).pointer ≢ 0 → (slot_at t n j).pointer ≢ before t n j → in_reach t n (placed_at t n j) ≡ true
      → slots_from t n j ≡ placed_at t n j ∷ slots_from t n (suc j)
  slots-next j h e c = shown-slot j h e ∙ (unfold slots_from in filter-yes (in_reach t n) (placed_at t n j) _ c)

  -- past slot 11 no slot is followed
  pub slots-past : slots_from t n 12 ≡ []
  unfolding slots_from shown_at filter in_use
  slots-past =
      let a = node-slots t n in
      let b = pairs-count (node t n).slots in
      ap (λ (l : List Slot). filter (in_reach t n) (shown_at (before t n 12) 12 (in_use l)))
      (drop_of_length-le (slots_of (node t n).slots) {i = 12} (omega (arith, a, b)))

  pub ways-at : (j : ℕ) → j ≤ 12 → ways_from t n (suc j) ≡ onward t n (slots_from t n j)
  unfolding ways_from
  ways-at j h = rw ((leb-iff j 12).1 h, ways_from)

  -- way 13 of a node leads to its sibling, on the same level
  pub ways-sibling : ways_from t n 13 ≡ meet (node_view t n).sibling (node_view t n).level ∷ ways_from t n 14
  ways-sibling = ways-at 12 (omega arith) ∙ ap (onward t n) slots-past ∙ (unfold ways_from in refl)

  pub ways-done : ways_from t n 14 ≡ []
  unfolding ways_from
  ways-done = refl

  -- a leaf has no way but to its sibling
  pub ways-leaf : (node_view t n).level ≡ 0 → meetings t n ≡ ways_from t n 13
  ways-leaf e = meetings-leaf t n e ∙ ap (λ (l : ℕ). meet (node_view t n).sibling l ∷ []) (sym e)
      ∙ ap (λ (l : List Meeting). meet (node_view t n).sibling (node_view t n).level ∷ l) (sym ways-done) ∙ sym ways-sibling

  -- the first way of a node above the leaves leads to its left, one level down
  pub ways-left : (d : ℕ) → (node_view t n).level ≡ suc d → meetings t n ≡ meet (node_view t n).left d ∷ ways_from t n 1
  ways-left d e =
      let q : pred (node_view t n).level ≡ d = ap pred e in
      meetings-inner t d n e ∙ ap (λ (l : List Meeting). meet (node_view t n).left d ∷ l)
      (sym (ways-at 0 (omega arith)
      ∙ ap (onward t n) (sym slots-first)
      ∙ ap (λ (l : ℕ). map (λ (x : Placed). meet x.slot.pointer (pred l)) (followed t n) ++ (meet (node_view t n).sibling l ∷ [])) e))

  ways-same : (j : ℕ) → j < 12 → slots_from t n j ≡ slots_from t n (suc j) → ways_from t n (suc j) ≡ ways_from t n (suc (suc j))
  ways-same j h e = ways-at j (omega arith) ∙ ap (onward t n) e ∙ sym (ways-at (suc j) (omega arith))

  -- the way of a hidden slot is passed over
  pub ways-hidden : (j : ℕ) → j < 12 → (slot_at t n j).pointer ≢ 0 → (slot_at t n j).pointer ≡ before t n j → ways_from t n (suc j)
      ≡ ways_from t n (suc (suc j))
  ways-hidden j h a b = ways-same j h (slots-hidden j a b)

  -- the way of a shown slot that is not below the sibling's fence is passed over
  pub ways-ignored : (j : ℕ) → j < 12 → (slot_at t n j).pointer ≢ 0 → (slot_at t n j).pointer ≢ before t n j
      → in_reach t n (placed_at t n j) ≡ false → ways_from t n (suc j) ≡ ways_from t n (suc (suc j))
  ways-ignored j h a b c = ways-same j h (slots-ignored j a b c)

  -- the way of a shown slot below the sibling's fence leads to its pointer, one level down
  pub ways-next : (j : ℕ) → j < 12 → (slot_at t n j).pointer ≢ 0 → (slot_at t n j).pointer ≢ before t n j
      → in_reach t n (placed_at t n j) ≡ true
      → ways_from t n (suc j) ≡ meet (slot_at t n j).pointer (pred (node_view t n).level) ∷ ways_from t n (suc (suc j))
  ways-next j h a b c =
      ways-at j (omega arith)
      ∙ ap (onward t n) (slots-next j a b c)
      ∙ ap (λ (l : List Meeting). meet (slot_at t n j).pointer (pred (node_view t n).level) ∷ l) (sym (ways-at (suc j) (omega arith)))

  -- the slots in use end: on to the sibling
  pub ways-end : (j : ℕ) → j < 12 → (slot_at t n j).pointer ≡ 0 → ways_from t n (suc j) ≡ ways_from t n 13
  ways-end j h a =
      ways-at j (omega arith)
      ∙ ap (onward t n) (slots-end j a ∙ sym slots-past)
      ∙ sym (ways-at 12 (omega arith))
