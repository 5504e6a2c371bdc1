-- A node's slot words as slots, one by one.
use Rattle.std.proofs.Common.{◌≡◌, ℕ, zero, suc, ◌+◌, ◌*◌, ◌<◌, ◌≤◌, [], ◌∷◌, length, drop, refl, arith}
use Rattle.model.specs.Table.{Words, at}
use Rattle.model.specs.Slots.{slot, slots_of}
use Rattle.list_laws.proofs.Tools.{double-suc}

-- double-suc for the odd word: from it alone the sum with 1 does not compute
double-one : (i : ℕ) → 2 * suc i + 1 ≡ suc (suc (2 * i + 1))
double-one i = omega arith

-- the slots from slot i on begin with words 2 i and 2 i + 1
pub slots-cons : (ws : Words) (i : ℕ) → 2 * i + 1 < length ws → drop i (slots_of ws) ≡ slot (at ws (2 * i)) (at ws (2 * i + 1))
    ∷ drop (suc i) (slots_of ws)
unfolding slots_of
slots-cons [] i h = absurd (omega arith)
slots-cons (k ∷ []) i h = absurd (omega arith)
slots-cons (k ∷ p ∷ ws) zero h = refl
slots-cons (k ∷ p ∷ ws) (suc i) h = rw (double-one i, double-suc i) (slots-cons ws i (omega arith))

-- past the last slot there is none
pub slots-end : (ws : Words) (i : ℕ) → length ws ≤ 2 * i + 1 → drop i (slots_of ws) ≡ []
unfolding slots_of
slots-end [] zero h = refl
slots-end [] (suc i) h = refl
slots-end (k ∷ []) zero h = refl
slots-end (k ∷ []) (suc i) h = refl
slots-end (k ∷ p ∷ ws) zero h = absurd (omega arith)
slots-end (k ∷ p ∷ ws) (suc i) h = slots-end ws i (omega arith)
