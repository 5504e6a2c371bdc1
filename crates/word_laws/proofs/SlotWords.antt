-- The words of slots: what a store to a key word or a pointer word does to the slots.
use Rattle.std.proofs.Common.{◌≡◌, ℕ, zero, suc, ◌*◌, List, [], ◌∷◌, length, set, refl, ap, arith}
use Rattle.model.specs.Table.{Words, at}
use Rattle.model.specs.Slots.{Slot, slot, slots_of}
use Rattle.list_laws.proofs.Tools.{double-suc}
use Rattle.slot_laws.proofs.SlotStores.{set_key, set_pointer, pointer_at}

pub slots-of-key : (i : ℕ) (ws : Words) (y : ℕ) → slots_of (set ws (2 * i) y) ≡ set_key (slots_of ws) i y
unfolding slots_of set_key
slots-of-key zero [] y = refl
slots-of-key zero (k ∷ []) y = refl
slots-of-key zero (k ∷ p ∷ ws) y = refl
slots-of-key (suc i) [] y = refl
slots-of-key (suc i) (k ∷ []) y = rw (double-suc i)
slots-of-key (suc i) (k ∷ p ∷ ws) y = rw (double-suc i) (ap (λ (l : List Slot). slot k p ∷ l) (slots-of-key i ws y))

pub slots-of-pointer : (i : ℕ) (ws : Words) (y : ℕ) → slots_of (set ws (suc (2 * i)) y) ≡ set_pointer (slots_of ws) i y
unfolding slots_of set_pointer
slots-of-pointer zero [] y = refl
slots-of-pointer zero (k ∷ []) y = refl
slots-of-pointer zero (k ∷ p ∷ ws) y = refl
slots-of-pointer (suc i) [] y = refl
slots-of-pointer (suc i) (k ∷ []) y = refl
slots-of-pointer (suc i) (k ∷ p ∷ ws) y = rw (double-suc i) (ap (λ (l : List Slot). slot k p ∷ l) (slots-of-pointer i ws y))

-- word 2i + 1 of the slot words is the pointer of slot i
pub at-pointer : (i : ℕ) (ws : Words) → at ws (suc (2 * i)) ≡ pointer_at (slots_of ws) i
unfolding slots_of
at-pointer i [] = refl
at-pointer i (k ∷ []) = refl
at-pointer zero (k ∷ p ∷ ws) = refl
at-pointer (suc i) (k ∷ p ∷ ws) = rw (double-suc i) (at-pointer i ws)

-- twice n words are n slots
pub length-slots : (n : ℕ) (ws : Words) → length ws ≡ 2 * n → length (slots_of ws) ≡ n
unfolding slots_of
length-slots zero [] e = refl
length-slots (suc n) [] e = absurd (omega arith)
length-slots zero (k ∷ ws) e = absurd (omega arith)
length-slots (suc n) (k ∷ []) e = absurd (omega arith)
length-slots (suc n) (k ∷ p ∷ ws) e = ap suc (length-slots n ws (omega arith))
