-- Marks as bits, 64 to a word.
use Rattle.std.specs.Prelude.{Bool, ℕ, ◌/◌, eqb, get_or}
use Rattle.model.specs.Table.{Words}
unfoldable pub use Rattle.model.specs.Marks.{has, put}

-- a word with all bits set
abbrev pub ONES : ℕ
ONES = 18446744073709551615

-- all 64 numbers of x's word are marked
unfoldable pub full : Words → (x : ℕ) → Bool
full ws x = eqb (get_or ws (x / 64) 0) ONES
