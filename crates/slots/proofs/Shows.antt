-- What an iterator over shown slots has left, one slot more; and what its chains come to.
use Rattle.std.proofs.Common.{◌≡◌, ℕ, ◌-◌, ◌*◌, ◌<◌, ◌≤◌, Bool, true, false, List, [], ◌∷◌, length, take, drop, sym, refl, ap, ◌∙◌, arith}
use Rattle.std.proofs.Common.{eqb-true}
use Rattle.std.proofs.Math.Dec.{eqb}
use Rattle.std.proofs.lemmas.List.{take_rest}
use Rattle.std.specs.Prelude.{Option, Some, None}
use Rattle.std.specs.List.{find}
use Rattle.std.specs.Option.{option_map}
use borrow.Author.Tests.{eqb-false}
use Rattle.model.specs.Table.{Words, at}
use Rattle.model.specs.Slots.{Slot, slot, slots_of, in_use, shown}
use Rattle.model.specs.Search.{first_with}
use Rattle.list_laws.proofs.Tools.{first-here, first-past}
use Rattle.slots.specs.Held.{held_by}
use Rattle.slots.specs.Scan.{used_from, in_use_of, shown_from}
use Rattle.slots.specs.Shown.{slot_of}
use Rattle.slots.proofs.Scans.{used-past, used-stop, used-more, shown-hide, shown-show}
use Rattle.slots.proofs.Places.{in-use-short}

-- ---- one slot more

shown-none : (before : ℕ) → shown before [] ≡ []
unfolding shown
shown-none before = refl

-- those after the first, as those of the words after its two
later-used : (ws : Words) → 2 ≤ length ws → used_from ws 1 ≡ used_from (take (length ws - 2) (drop 2 ws)) 0
unfolding slots_of
later-used [] h = absurd (omega arith)
later-used (k ∷ []) h = absurd (omega arith)
later-used (k ∷ p ∷ ws) h = ap (λ (l : Words). in_use (slots_of l)) (sym (take_rest (k ∷ p ∷ ws) 2))

module _ (ws : Words) (before : ℕ) where
  pub left-past : length ws < 2 → shown_from before ws 0 ≡ []
  left-past h = ap (shown before) (used-past ws 0 (omega arith)) ∙ shown-none before

  module _ (h : 2 ≤ length ws) where
    pub left-stop : at ws 1 ≡ 0 → shown_from before ws 0 ≡ []
    left-stop e = ap (shown before) (used-stop ws 0 (omega arith) e) ∙ shown-none before

    abbrev others : Words
    others = take (length ws - 2) (drop 2 ws)

    module _ (z : at ws 1 ≡ 0 → ⊥) where
      first-used : used_from ws 0 ≡ slot (at ws 0) (at ws 1) ∷ used_from others 0
      first-used = used-more ws 0 (omega arith) z ∙ ap (λ (ss : List Slot). slot (at ws 0) (at ws 1) ∷ ss) (later-used ws h)

      pub left-shown : (at ws 1 ≡ before → ⊥) → shown_from before ws 0 ≡ slot (at ws 0) (at ws 1) ∷ shown_from (at ws 1) others 0
      left-shown d = ap (shown before) first-used ∙ shown-show before _ _ d

      pub left-hidden : at ws 1 ≡ before → shown_from before ws 0 ≡ shown_from (at ws 1) others 0
      left-hidden d = ap (shown before) first-used ∙ shown-hide before _ _ d

-- ---- their number

shown-fewer : (before : ℕ) (ss : List Slot) → length (shown before ss) ≤ length ss
unfolding shown
shown-fewer before [] = omega arith
shown-fewer before (s ∷ ss) = go (eqb s.pointer before) refl (shown-fewer s.pointer ss)
  where
    go : (b : Bool) → eqb s.pointer before ≡ b → length (shown s.pointer ss) ≤ length ss → length (shown before (s ∷ ss)) ≤ length (s ∷ ss)
    go true e ih = rw (e, shown) (omega arith)
    go false e ih = rw (e, shown) (omega arith)

pub shown-half : (before : ℕ) (ws : Words) → 2 * length (shown_from before ws 0) ≤ length ws
unfolding in_use_of
shown-half before ws = omega (arith, shown-fewer before (used_from ws 0), in-use-short ws)

-- ---- the chains

first-found : (k : ℕ) (ss : List Slot) → held_by (first_with k ss)
    ≡ option_map (λ (s : Slot). s.pointer) (find (λ (s : Slot). eqb s.key k) ss)
unfolding first_with
first-found k [] = refl
first-found k (s ∷ ss) = go (eqb s.key k) refl (first-found k ss)
  where
    go : (b : Bool) → eqb s.key k ≡ b → held_by (first_with k ss)
        ≡ option_map (λ (s : Slot). s.pointer) (find (λ (s : Slot). eqb s.key k) ss)
        → held_by (first_with k (s ∷ ss)) ≡ option_map (λ (s : Slot). s.pointer) (find (λ (s : Slot). eqb s.key k) (s ∷ ss))
    go true e ih = rw (first-here k s ss (eqb-true s.key k e), e)
    go false e ih = rw (first-past k s ss (eqb-false s.key k e), e) ih

-- a slot that was found, and its pointer
pub found-pair : (k : ℕ) (ss : List Slot) (r : Option (ℕ × ℕ)) (m : Option ℕ) → m ≡ option_map (λ (x : ℕ × ℕ). x.1) r
    → option_map slot_of r ≡ find (λ (s : Slot). eqb s.key k) ss → m ≡ held_by (first_with k ss)
found-pair k ss r m e f = e ∙ second r ∙ ap (option_map (λ (s : Slot). s.pointer)) f ∙ sym (first-found k ss)
  where
    second : (r : Option (ℕ × ℕ)) → option_map (λ (x : ℕ × ℕ). x.1) r ≡ option_map (λ (s : Slot). s.pointer) (option_map slot_of r)
    second (Some x) = refl
    second None = refl
