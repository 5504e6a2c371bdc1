-- The bits of a word: shifted down, turned round, and the zeros below the lowest 1.
use Rattle.std.proofs.Common.{◌≡◌, ℕ, zero, suc, ◌+◌, ◌-◌, ◌*◌, ◌/◌, ◌%◌, ◌^◌, ◌<◌, Bool, true, false, not, eqb, sym, refl, ap, ◌∙◌}
use Rattle.std.proofs.Common.{pow-suc, div-one, arith, shr-shr}
use mathlib.Core.Bool.{beq}
use lib.Count.{count_trailing_zeros, under}
use Rattle.wear.specs.Counting.{bit}

-- the lowest bit; a bit of a half is the next of the whole
bit-zero : (n : ℕ) → bit n 0 ≡ eqb (n % 2) 1
bit-zero n = ap (λ (q : ℕ). eqb (q % 2) 1) (div-one n)

bit-half : (n i : ℕ) → bit n (suc i) ≡ bit (n / 2) i
bit-half n i = let e : suc i ≡ 1 + i = omega arith in ap (λ (q : ℕ). eqb (q % 2) 1) (ap (λ (m : ℕ). n / 2 ^ m) e ∙ sym (shr-shr n 1 i))

-- ---- the zeros below the lowest 1

module _ (k n t : ℕ) where
  below-here : ((i : ℕ) → i < t → bit (n / 2) i ≡ false) → (r : ℕ) → n % 2 ≡ r → (i : ℕ) → i < under r t → bit n i ≡ false
  below-here ih zero e zero h = bit-zero n ∙ rw e
  below-here ih zero e (suc i) h = bit-half n i ∙ ih i (omega arith)
  below-here ih (suc r) e i h = absurd (omega arith)

  end-here : (t < k → bit (n / 2) t ≡ true) → (r : ℕ) → n % 2 ≡ r → under r t < suc k → bit n (under r t) ≡ true
  end-here ih zero e h = bit-half n t ∙ ih (omega arith)
  end-here ih (suc r) e h = let o : n % 2 ≡ 1 = omega arith in bit-zero n ∙ rw o

pub zeros-below : (k n i : ℕ) → i < count_trailing_zeros k n → bit n i ≡ false
unfolding count_trailing_zeros
zeros-below zero n i h = absurd (omega arith)
zeros-below (suc k) n i h = below-here k n (count_trailing_zeros k (n / 2)) (zeros-below k (n / 2)) (n % 2) refl i h

pub zeros-end : (k n : ℕ) → count_trailing_zeros k n < k → bit n (count_trailing_zeros k n) ≡ true
unfolding count_trailing_zeros
zeros-end zero n h = absurd (omega arith)
zeros-end (suc k) n h = end-here k n (count_trailing_zeros k (n / 2)) (zeros-end k (n / 2)) (n % 2) refl h

-- ---- turned round

turn : (r : ℕ) → r < 2 → eqb (1 - r) 1 ≡ not (eqb r 1)
turn zero h = refl
turn (suc zero) h = refl
turn (suc (suc r)) h = absurd (omega arith)

pub bit-turned : (k n i : ℕ) → n < 2 ^ k → i < k → bit (2 ^ k - 1 - n) i ≡ not (bit n i)
bit-turned zero n i h l = absurd (omega arith)
bit-turned (suc k) n zero h l =
    let p : n < 2 ^ k * 2 = rw (pow-suc 2 k) at h in
    let e : (2 ^ k * 2 - 1 - n) % 2 ≡ 1 - n % 2 = omega arith in
    rw (pow-suc 2 k, bit-zero (2 ^ k * 2 - 1 - n), bit-zero n, e) (turn (n % 2) (omega arith))
bit-turned (suc k) n (suc i) h l =
    let p : n < 2 ^ k * 2 = rw (pow-suc 2 k) at h in
    let e : (2 ^ k * 2 - 1 - n) / 2 ≡ 2 ^ k - 1 - n / 2 = omega arith in
    rw (pow-suc 2 k, bit-half (2 ^ k * 2 - 1 - n) i, bit-half n i, e) (bit-turned k (n / 2) i (omega arith) (omega arith))

-- ---- as wanted

beq-true : (b : Bool) → b ≡ beq b true
beq-true true = refl
beq-true false = refl

beq-false : (b : Bool) → not b ≡ beq b false
beq-false true = refl
beq-false false = refl

pub bits-marked : (word : ℕ) (wanted : Bool) → wanted ≡ true → (i : ℕ) → i < 64 → bit word i ≡ beq (bit word i) wanted
bits-marked word wanted e i h = rw e (beq-true (bit word i))

pub bits-unmarked : (word : ℕ) (wanted : Bool) → wanted ≡ false → word < 2 ^ 64 → (i : ℕ) → i < 64 → bit (18446744073709551615 - word) i
    ≡ beq (bit word i) wanted
bits-unmarked word wanted e f i h = rw e (bit-turned 64 word i f h ∙ beq-false (bit word i))
