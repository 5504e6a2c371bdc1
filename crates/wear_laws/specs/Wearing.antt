-- Extents by a test of words, and a search for the next word by it.
use Rattle.std.specs.Prelude.{◌≡◌, Bool, not, List, ℕ, ◌≤◌, ◌<◌}
use Rattle.model.specs.Search.{filter}
use Rattle.model.specs.Writes.{numbers}
use Rattle.model.specs.Wear.{Extent, join_all}

-- the extents of the words for which f holds, among so many from a word on
abbrev pub extents_in : (ℕ → Bool) → (from count : ℕ) → List Extent
extents_in f from count = join_all (filter f (numbers from count))

-- r is the first number from `from` on, below len, whose test says `wanted`; len if there is none
pub record Sought (f : ℕ → Bool) (wanted : Bool) (from len r : ℕ) : Type 0 where
  pub after : from ≤ r
  pub within : r ≤ len
  pub before : (v : ℕ) → from ≤ v → v < r → f v ≡ not wanted
  pub found : r < len → f r ≡ wanted
