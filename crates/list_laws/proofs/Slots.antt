-- Lists of slots: those in use, those shown, and the place of a key.
use Rattle.std.proofs.Common.{◌≡◌, ℕ, ◌*◌, ◌/◌, ◌≤◌, Bool, true, false, eqb, ltb, ◌≢◌, List, [], ◌∷◌, length, refl, arith}
use borrow.Author.Tests.{eqb-false}
use Rattle.model.specs.Table.{Words}
use Rattle.model.specs.Slots.{Slot, slots_of, slot_words, in_use, shown}
use Rattle.model.specs.Shifts.{place_of}
use Rattle.list_laws.proofs.Tools.{Each}

-- the slots in use have pointers
pub in-use-some : (ss : List Slot) → Each (λ (s : Slot). s.pointer ≢ 0) (in_use ss)
unfolding in_use
in-use-some [] = tt
in-use-some (s ∷ ss) = go (eqb s.pointer 0) refl (in-use-some ss)
  where
    go : (b : Bool) → eqb s.pointer 0 ≡ b → Each (λ (s : Slot). s.pointer ≢ 0) (in_use ss)
        → Each (λ (s : Slot). s.pointer ≢ 0) (in_use (s ∷ ss))
    go true c ih = rw (c, in_use) tt
    go false c ih = rw (c, in_use) (eqb-false s.pointer 0 c, ih)

-- the shown ones are some of them
pub each-shown : (P : Slot → Type 0) (p : ℕ) (ss : List Slot) → Each P ss → Each P (shown p ss)
unfolding shown
each-shown P p [] h = tt
each-shown P p (s ∷ ss) h = go (eqb s.pointer p) refl (each-shown P s.pointer ss h.1)
  where
    go : (b : Bool) → eqb s.pointer p ≡ b → Each P (shown s.pointer ss) → Each P (shown p (s ∷ ss))
    go true c ih = rw (c, shown) ih
    go false c ih = rw (c, shown) (h.0, ih)

-- the place of a key is at most the end
pub place-length : (k : ℕ) (ss : List Slot) → place_of k ss ≤ length ss
unfolding place_of
place-length k [] = omega arith
place-length k (s ∷ ss) = go (ltb s.key k) refl (place-length k ss)
  where
    go : (b : Bool) → ltb s.key k ≡ b → place_of k ss ≤ length ss → place_of k (s ∷ ss) ≤ length (s ∷ ss)
    go true e ih = rw (e, place_of) (omega arith)
    go false e ih = rw (e, place_of) (omega arith)

-- the words of slots, and the slots of words, of which a last one is left aside
pub length-pairs : (ss : List Slot) → length (slot_words ss) ≡ 2 * length ss
length-pairs [] = refl
length-pairs (s ∷ ss) = omega (arith, length-pairs ss)

-- words are half as many slots, rounded down
pub pairs-count : (ws : Words) → length (slots_of ws) ≡ length ws / 2
unfolding slots_of
pairs-count [] = refl
pairs-count (k ∷ []) = refl
pairs-count (k ∷ x ∷ ws) = omega (arith, pairs-count ws)
