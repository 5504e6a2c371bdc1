-- Words that are 0: parts of a list of zeros, and the test that all words of a list are 0.
use Rattle.std.proofs.Common.{◌≡◌, ℕ, zero, suc, ◌+◌, ◌-◌, ◌<◌, ◌≤◌, true, ◌↔◌, [], ◌∷◌, take, drop, refl, arith, length-take, get_or-drop}
use Rattle.std.proofs.Common.{get_or-take}
use native.Mathlib.Decide.{dec_lt}
use lib.ListN.{get_or-eq_default}
use Rattle.model.specs.Table.{Words, at, all_zero}
use Rattle.list_laws.proofs.Tools.{decode}

pub all-zero-iff : (ws : Words) → (all_zero ws ≡ true) ↔ ((i : ℕ) → at ws i ≡ 0)
unfolding all_zero
all-zero-iff [] = (λ e i. refl, λ z. refl)
all-zero-iff (w ∷ ws) =
    (λ e. let u = simp decode at e in each u.0 ((all-zero-iff ws).0 u.1), λ z. simp decode (z 0, (all-zero-iff ws).1 (λ i. z (suc i))))
  where
    each : w ≡ 0 → ((i : ℕ) → at ws i ≡ 0) → (i : ℕ) → at (w ∷ ws) i ≡ 0
    each h z zero = h
    each h z (suc i) = z i

-- a word of the n words from a on
pub at-part : (t : Words) (a n i : ℕ) → i < n → at (take n (drop a t)) i ≡ at t (a + i)
at-part t a n i h = rw (get_or-take, get_or-drop)

-- the n words from a on are 0
pub part-zero-iff : (t : Words) (a n : ℕ) → (all_zero (take n (drop a t)) ≡ true) ↔ ((w : ℕ) → a ≤ w → w < a + n → at t w ≡ 0)
part-zero-iff t a n = (λ e w l u. inside w (w - a) (omega arith) (omega arith) e, λ z. (all-zero-iff _).1 (λ i. each z i (dec_lt i n)))
  where
    inside : (w i : ℕ) → i < n → a + i ≡ w → all_zero (take n (drop a t)) ≡ true → at t w ≡ 0
    inside w i h e z = rw (← e, ← at-part t a n i h) ((all-zero-iff _).0 z i)

    each : ((w : ℕ) → a ≤ w → w < a + n → at t w ≡ 0) → (i : ℕ) → Dec (i < n) → at (take n (drop a t)) i ≡ 0
    each z i (yes h) = rw at-part (z (a + i) (omega arith) (omega arith))
    each z i (no h) = get_or-eq_default (take n (drop a t)) 0 {n = i} (simp length-take (omega arith))
