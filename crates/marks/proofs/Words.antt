-- Marks as the code writes and reads them.
use Rattle.std.proofs.Common.{◌≡◌, ℕ, ◌+◌, ◌-◌, ◌*◌, ◌/◌, ◌%◌, ◌^◌, ◌<◌, ◌≤◌, Bool, true, false, eqb, leb, ◌≢◌, get_or, set, bit_xor, sym}
use Rattle.std.proofs.Common.{refl, ap, ◌∙◌, ⊎_elim, one-mul, arith, shl_exact, shr-shr, w64, eq-eqb, eqb-true, leb-false, leb-true}
use borrow.Author.Tests.{eqb-false}
use Rattle.std.specs.Int.{bit_at, trailing_ones}
use Rattle.std.proofs.Math.Nat.{div-le_self}
use Rattle.std.proofs.lemmas.Nat.Bits.{bit_at_above, bit_at-trailing_ones}
use Rattle.list_laws.proofs.Tools.{same-or-not}
use Rattle.model.specs.Table.{MARK, Words, at}
use Rattle.model.specs.Marks.{has, cleared}
use Rattle.bits.specs.Bits.{full}
use Rattle.bits.proofs.Marks.{full-marked}
use Rattle.marks.specs.Runs.{Taken, FullWords}

pub clear-word : (ms : Words) (x : ℕ) → has ms x ≡ true
    → set ms (x / 64) (bit_xor (get_or ms (x / 64) 0) (1 * 2 ^ (x % 64) % 2 ^ 64)) ≡ cleared ms x
unfolding cleared
clear-word ms x e = rw e
    (ap (λ (b : ℕ). set ms (x / 64) (bit_xor (get_or ms (x / 64) 0) b))
    (shl_exact 1 (x % 64) 64 (omega arith) (omega arith) ∙ one-mul (2 ^ (x % 64))))

pub clear-none : (ms : Words) (x : ℕ) → has ms x ≡ false → ms ≡ cleared ms x
unfolding cleared
clear-none ms x e = rw e

-- ---- a run of marks

-- the bits of a word from n's on, up to its lowest 0
module _ (ms : Words) (n : ℕ) (small : at ms (n / 64) < 2 ^ 64) (unset : at ms (n / 64) ≢ MARK) where
  bits-few : at ms (n / 64) / 2 ^ (n % 64) + 1 < 2 ^ 64
  bits-few = omega (arith, small, unset, div-le_self (at ms (n / 64)) (2 ^ (n % 64)))

  -- bit i of them is that of node n + i
  bit-is : (i : ℕ) → bit_at (at ms (n / 64) / 2 ^ (n % 64)) i ≡ bit_at (at ms (n / 64)) (n % 64 + i)
  bit-is i = ap (λ (x : ℕ). x % 2) (shr-shr (at ms (n / 64)) (n % 64) i)

  one-marked : (m : ℕ) → n ≤ m → bit_at (at ms (n / 64) / 2 ^ (n % 64)) (m - n) ≡ 1 → has ms m ≡ true
  unfolding has
  one-marked m a e = go (leb 64 (n % 64 + (m - n))) refl
    where
      go : (b : Bool) → leb 64 (n % 64 + (m - n)) ≡ b → has ms m ≡ true
      go true q = let z = bit_at_above (at ms (n / 64)) 64 (n % 64 + (m - n)) small (leb-true 64 (n % 64 + (m - n)) q) in absurd
          (omega (arith, z, bit-is (m - n), e))
      go false q =
          let h = leb-false 64 (n % 64 + (m - n)) q in
          let same : m / 64 ≡ n / 64 = omega (arith, a, h) in
          let place : m % 64 ≡ n % 64 + (m - n) = omega (arith, a, h) in
          rw (same, place) (ap (λ (x : ℕ). eqb x 1) (sym (bit-is (m - n)) ∙ e))

  pub taken-bits : (v : ℕ) → v ≡ trailing_ones w64 (at ms (n / 64) / 2 ^ (n % 64)) → Taken ms n v
  unfolding has
  taken-bits v e =
      let h = bit_at-trailing_ones w64 (at ms (n / 64) / 2 ^ (n % 64)) bits-few in
      record {
        short = omega (arith, e, h.0);
        run = λ m a b. one-marked m a (h.2 (m - n) (omega (arith, e, a, b)));
        none = λ z.
            let here : n % 64 + 0 ≡ n % 64 = omega arith in
            let off : bit_at (at ms (n / 64)) (n % 64) ≡ 0 =
            ap (bit_at (at ms (n / 64))) (sym here) ∙ sym (bit-is 0) ∙ ap (bit_at (at ms (n / 64) / 2 ^ (n % 64))) (sym z ∙ e) ∙ h.1 in
            ap (λ (x : ℕ). eqb x 1) off;
      }

pub not-full : (ms : Words) (n : ℕ) → full ms n ≡ false → at ms (n / 64) ≢ MARK
unfolding full
not-full ms n e = eqb-false (at ms (n / 64)) MARK e

pub is-full : (ms : Words) (n : ℕ) → full ms n ≡ true → at ms (n / 64) ≡ MARK
unfolding full
is-full ms n e = eqb-true (at ms (n / 64)) MARK e

-- full words
pub taken-words : (ms : Words) (n last r : ℕ) → last ≤ 65535 → at ms (n / 64) ≡ MARK → FullWords ms (n / 64 + 1) (last / 64 + 1) r
    → Taken ms n (64 * r - n)
unfolding full
taken-words ms n last r h e f =
    record {
      short = omega (arith, f.within, h);
      run = λ m a b. full-marked ms m m
          (eq-eqb (at ms (m / 64)) MARK
          (⊎_elim (λ q. ap (at ms) q ∙ e) (λ q. f.full (m / 64) (omega (arith, a, q)) (omega (arith, b))) (same-or-not (m / 64) (n / 64))))
          refl;
      none = λ z. absurd (omega (arith, z, f.no-less));
    }
