-- The next number that is marked, or that is not: within a word, and one word after another.
use Rattle.std.proofs.Common.{◌≡◌, ℕ, ◌+◌, ◌-◌, ◌/◌, ◌%◌, ◌^◌, ◌<◌, ◌≤◌, min, Bool, true, false, not, eqb, sym, refl, ap, ◌∙◌, ⊎_elim}
use Rattle.std.proofs.Common.{arith, shr-shr}
use mathlib.Core.Bool.{beq, false≢true}
use lib.Count.{count_trailing_zeros}
use Rattle.std.proofs.lemmas.Bool.{cases_lt}
use Rattle.model.specs.Table.{Words, at}
use Rattle.list_laws.proofs.Tools.{compared}
use Rattle.bits.specs.Bits.{has}
use Rattle.wear_laws.specs.Wearing.{Sought}
use Rattle.wear.specs.Counting.{bit}
use Rattle.wear.proofs.Bits.{zeros-below, zeros-end}

-- two Booleans compared
same : (a b : Bool) → beq a b ≡ true → a ≡ b
same true true e = refl
same true false e = absurd (false≢true e)
same false true e = absurd (false≢true e)
same false false e = refl

other : (a b : Bool) → beq a b ≡ false → a ≡ not b
other true true e = absurd (false≢true (sym e))
other true false e = refl
other false true e = refl
other false false e = absurd (false≢true (sym e))

-- ---- within a word of marks

module _ (marks : Words) (w : ℕ) where
  abbrev word : ℕ
  word = at marks (w / 64) / 2 ^ (w % 64)

  -- the numbers of the word from w on are its bits
  mark-bit : (i : ℕ) → i < 64 - w % 64 → has marks (w + i) ≡ bit word i
  unfolding has
  mark-bit i h =
      let q : (w + i) / 64 ≡ w / 64 = omega arith in
      let r : (w + i) % 64 ≡ w % 64 + i = omega arith in
      rw (q, r) (ap (λ (x : ℕ). eqb (x % 2) 1) (sym (shr-shr (at marks (w / 64)) (w % 64) i)))

  module _ (wanted : Bool) (bits : ℕ) (e : (i : ℕ) → i < 64 → bit bits i ≡ beq (bit word i) wanted) where
    abbrev zeros : ℕ
    zeros = count_trailing_zeros 64 bits

    passed : (i : ℕ) → i < zeros → i < 64 - w % 64 → has marks (w + i) ≡ not wanted
    passed i h l = mark-bit i l ∙ other (bit word i) wanted (sym (e i (omega arith)) ∙ zeros-below 64 bits i h)

    before : (n : ℕ) → n ≤ zeros → n ≤ 64 - w % 64 → (v : ℕ) → w ≤ v → v < w + n → has marks v ≡ not wanted
    before n h l v a b = let q : v ≡ w + (v - w) = omega arith in rw q (passed (v - w) (omega arith) (omega arith))

    word-passed : 64 - w % 64 < zeros → Sought (has marks) wanted w (w + (64 - w % 64)) (w + (64 - w % 64))
    word-passed h = record {
      after = omega arith;
      within = omega arith;
      before = before (64 - w % 64) (omega arith) (omega arith);
      found = λ l. absurd (omega arith);
    }

    word-found : zeros ≤ 64 - w % 64 → Sought (has marks) wanted w (w + (64 - w % 64)) (w + zeros)
    word-found h = record {
      after = omega arith;
      within = omega arith;
      before = before zeros (omega arith) h;
      found = λ l. mark-bit zeros (omega arith)
          ∙ same (bit word zeros) wanted (sym (e zeros (omega arith)) ∙ zeros-end 64 bits (omega arith));
    }

    pub word-least : Sought (has marks) wanted w (w + (64 - w % 64)) (w + min zeros (64 - w % 64))
    word-least = ⊎_elim
        (λ h. let e : min zeros (64 - w % 64) ≡ 64 - w % 64 = omega arith in rw e (word-passed h))
        (λ h. let e : min zeros (64 - w % 64) ≡ zeros = omega arith in rw e (word-found h))
        (cases_lt (64 - w % 64) zeros)

-- ---- one word after another

module _ (f : ℕ → Bool) (wanted : Bool) (from w : ℕ) (h : from ≤ w) (passed : (v : ℕ) → from ≤ v → v < w → f v ≡ not wanted) where
  pub seek-end : (len : ℕ) → w ≤ len → len ≤ w → Sought f wanted from len w
  seek-end len l e = record { after = h; within = l; before = passed; found = λ m. absurd (omega arith) }

  module _ (end n : ℕ) (s : Sought f wanted w end (w + n)) where
    pub seek-next : (v : ℕ) → from ≤ v → v < w + n → f v ≡ not wanted
    seek-next v a b = ⊎_elim (λ l. passed v a l) (λ o. s.before v (⊎_elim (λ q. omega arith) (λ q. omega arith) o) b) (compared v w)

    pub seek-none : (len : ℕ) → w ≤ len → len - w ≤ n → Sought f wanted from len len
    seek-none len l m = record
        { after = omega arith; within = omega arith; before = λ v a b. seek-next v a (omega arith); found = λ z. absurd (omega arith) }

    pub seek-found : (len : ℕ) → n < len - w → w + n < end → Sought f wanted from len (w + n)
    seek-found len m l = record { after = omega arith; within = omega arith; before = seek-next; found = λ _. s.found l }
