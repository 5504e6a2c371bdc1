-- What cells hold.
use Rattle.std.specs.Prelude.{◌≡◌, Bool, true, ◌≢◌, ℕ}
use Rattle.model.specs.Table.{Words, at}
use Rattle.model.specs.Cells.{holds}

-- The cells hold these numbers and no others, each once.
pub record SetOf (cs : Words) (mem : ℕ → Bool) : Type 0 where
  pub known : (i : ℕ) → at cs i ≢ 0 → mem (at cs i) ≡ true
  pub found : (x : ℕ) → mem x ≡ true → holds cs x ≡ true
  pub once : (i j : ℕ) → at cs i ≢ 0 → at cs i ≡ at cs j → i ≡ j
