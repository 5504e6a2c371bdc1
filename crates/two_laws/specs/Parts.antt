-- What the parts of an insertion into collection n ask of the table that they are given: the pair may enter, a node can be split, a run is ready
-- to be split.
use Rattle.std.specs.Prelude.{◌≡◌, true, false, List, ℕ, suc, ◌≤◌, ◌<◌, length}
use Rattle.model.specs.Table.{Words, no_collection}
use Rattle.model.specs.Slots.{recording_ok, class_ok, node_view, height, view_of}
use Rattle.model.specs.Orders.{Store}
use Rattle.model.specs.Writes.{split, unreachable, fresh, standing}
use Rattle.model.specs.Refusals.{has_key, has_recording, too_high, too_few}
use Rattle.model.specs.SoundTest.{settled}
use Rattle.model.specs.Reached.{map_of}
use Rattle.step_laws.specs.Parts.{FullNode}

-- refusals 6, 14, 7, 8, 11 and 10 do not apply to an insertion of k with recording r and class c into collection n
pub record Enters (n k r c : ℕ) (t : Words) : Type 0 where
  pub recording-ok : recording_ok r ≡ true
  pub class-ok : class_ok c ≡ true
  pub no-key : has_key k (map_of n t) ≡ false
  pub no-recording : has_recording r (map_of n t) ≡ false
  pub not-high : too_high n t k ≡ false
  pub enough : too_few n t k ≡ false

-- ---- a split

-- the split of the node on level l of collection n that stands for k, into the fresh node
abbrev pub split_for : (n : ℕ) → Words → (l k : ℕ) → List Store
split_for n t l k = split t (standing n t l k) (fresh t (standing n t l k)) (standing n t (suc l) k)

-- A stands for k on level l of a collection of a settled table and is full, its parent has room, and some node is unreachable
pub record Splittable (n : ℕ) (t : Words) (k l : ℕ) : Type 0 where
  pub collection : no_collection n t ≡ false
  pub settled : settled t ≡ true
  pub node : FullNode (view_of n t) k l
  pub some : 0 < length (unreachable t)

-- ---- a run

-- the lowest m nodes of the path to k are full, the next one has room, and m nodes are unreachable
pub record Ready (m n : ℕ) (t : Words) (k : ℕ) : Type 0 where
  pub collection : no_collection n t ≡ false
  pub settled : settled t ≡ true
  pub high : m ≤ height (view_of n t)
  pub full : (l : ℕ) → l < m → length (node_view t (standing n t l k)).shown ≡ 11
  pub above : length (node_view t (standing n t m k)).shown ≤ 10
  pub enough : m ≤ length (unreachable t)
