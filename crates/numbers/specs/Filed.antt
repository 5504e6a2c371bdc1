-- Which numbers the cells hold.
use Rattle.std.specs.Prelude.{◌≡◌, Bool, true, ◌≢◌, ◌⊎◌, ℕ, zero, suc, ◌%◌, length, get_or}
use Rattle.model.specs.Table.{Words}
use Rattle.numbers.specs.Cells.{mixed, next_cell}

-- of n cells, m along the path from cell i on: r is met before a free one
abbrev pub Closed : (n : ℕ) → Words → (r i m : ℕ) → Type 0
Closed n cs r i zero = Unit {0}
Closed n cs r i (suc m) = (get_or cs i 0 ≡ r) ⊎ ((get_or cs i 0 ≢ 0) × Closed n cs r (next_cell n i) m)

-- n cells, looked through by paths of m, hold these numbers; one that found its path full is not looked for there in vain
pub record Filed (m n : ℕ) (cs : Words) (mem : ℕ → Bool) : Type 0 where
  pub long : length cs ≡ n
  pub known : (k : ℕ) → get_or cs k 0 ≢ 0 → mem (get_or cs k 0) ≡ true
  pub closed : (r : ℕ) → r ≢ 0 → mem r ≡ true → Closed n cs r (mixed r % n) m
