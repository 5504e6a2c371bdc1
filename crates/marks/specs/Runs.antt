-- Nodes in a row that are marked.
use Rattle.std.specs.Prelude.{◌≡◌, true, false, ℕ, ◌+◌, ◌≤◌, ◌<◌}
use Rattle.model.specs.Table.{MARK, Words, at}
use Rattle.model.specs.Marks.{has}

-- the nodes from n to n + r - 1 are marked; n is not, where r is 0
pub record Taken (ms : Words) (n r : ℕ) : Type 0 where
  pub short : r ≤ 65536
  pub run : (m : ℕ) → n ≤ m → m < n + r → has ms m ≡ true
  pub none : r ≡ 0 → has ms n ≡ false

-- the words from one on, before r, are full; r is no later than another one
pub record FullWords (ms : Words) (from to r : ℕ) : Type 0 where
  pub no-less : from ≤ r
  pub within : r ≤ to
  pub full : (i : ℕ) → from ≤ i → i < r → at ms i ≡ MARK
