-- Marks as the code sees them: a word of 64 marks, and a mark put into its word.
use Rattle.std.proofs.Common.{◌≡◌, ℕ, zero, suc, ◌*◌, ◌/◌, ◌%◌, ◌^◌, ◌<◌, Bool, true, ◌&&◌, eqb, get_or, set, bit_or, refl, ap, ◌∙◌, ⊎_elim}
use Rattle.std.proofs.Common.{one-mul, arith, shl_exact, eqb-true}
use Rattle.model.specs.Table.{Words}
use Rattle.list_laws.proofs.Tools.{same-or-not, and-iff}
pub use Rattle.set_laws.proofs.Marks.{has-put-same, has-put-other, put-length, none-marked}
use Rattle.bits.specs.Bits.{has, put, ONES, full}

-- ---- a word of 64 marks

-- the lowest n bits of a full word are set
lowest : ℕ → Bool
lowest zero = true
lowest (suc n) = eqb (ONES / 2 ^ n % 2) 1 && lowest n

lowest-set : (n k : ℕ) → lowest n ≡ true → k < n → eqb (ONES / 2 ^ k % 2) 1 ≡ true
unfolding lowest
lowest-set zero k e h = absurd (omega arith)
lowest-set (suc n) k e h = let p =
    (and-iff _ _).0 e in ⊎_elim (λ q. rw q p.0) (λ q. lowest-set n k p.1 (omega (arith, q))) (same-or-not k n)

all-set : lowest 64 ≡ true
unfolding lowest
all-set = refl

-- all numbers of such a word are marked
pub full-marked : (ws : Words) (x m : ℕ) → full ws x ≡ true → m / 64 ≡ x / 64 → has ws m ≡ true
unfolding has full
full-marked ws x m e q = rw (q, eqb-true (get_or ws (x / 64) 0) ONES e) (lowest-set 64 (m % 64) all-set (omega arith))

-- ---- as the code writes it

pub put-word : (ws : Words) (x : ℕ) → set ws (x / 64) (bit_or (get_or ws (x / 64) 0) (1 * 2 ^ (x % 64) % 2 ^ 64)) ≡ put ws x
unfolding put
put-word ws x = ap (λ (b : ℕ). set ws (x / 64) (bit_or (get_or ws (x / 64) 0) b))
    (shl_exact 1 (x % 64) 64 (omega arith) (omega arith) ∙ one-mul (2 ^ (x % 64)))
