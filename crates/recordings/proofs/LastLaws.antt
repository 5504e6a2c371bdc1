-- Numbers passed over from above: a word of marks that is 0.
use Rattle.std.proofs.Common.{◌≡◌, ℕ, ◌+◌, ◌/◌, ◌%◌, ◌^◌, eqb, get_or, ap, ◌∙◌, arith, pow_pos}
use native.Mathlib.Nat.{div-eq_of_lt}
use Rattle.model.specs.Table.{Words}
use Rattle.bits.specs.Bits.{has}
use Rattle.recordings.specs.Marked.{NoneOf}

-- a word that is 0
pub word-none : (ws : Words) (m : ℕ) → get_or ws (m / 64) 0 ≡ 0 → NoneOf ws m (m % 64 + 1)
unfolding has
word-none ws m e i l h =
    let d : i / 64 ≡ m / 64 = omega arith in
    ap (λ (q : ℕ). eqb (get_or ws q 0 / 2 ^ (i % 64) % 2) 1) d ∙ ap (λ (w : ℕ). eqb (w / 2 ^ (i % 64) % 2) 1) e
    ∙ ap (λ (q : ℕ). eqb (q % 2) 1) (div-eq_of_lt (pow_pos (i % 64)))
