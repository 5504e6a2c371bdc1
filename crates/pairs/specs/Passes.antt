-- The recording numbers of one pass.
use Rattle.std.specs.Prelude.{Bool, ◌&&◌, ℕ, leb, ltb}
use Rattle.numbers.specs.Cells.{mixed}

unfoldable pub in_pass : ℕ → ℕ → ℕ → Bool
in_pass low high r = leb low (mixed r) && ltb (mixed r) high
