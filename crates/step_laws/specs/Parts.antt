-- What a split asks of the tree that it is made in.
use Rattle.std.specs.Prelude.{◌≡◌, ℕ, suc, ◌≤◌, ◌<◌, length}
use Rattle.model.specs.Slots.{View, height}
use Rattle.model.specs.Writes.{standing_in}

-- the node on level l that stands for k is full, and its parent has room
pub record FullNode (v : View) (k l : ℕ) : Type 0 where
  pub high : l < height v
  pub full : length (v.node (standing_in v l k)).shown ≡ 11
  pub roomy : length (v.node (standing_in v (suc l) k)).shown ≤ 10
