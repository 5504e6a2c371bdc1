-- The nodes of a tree level by level, and its pairs leaf by leaf, each along the siblings.
use Rattle.std.specs.Prelude.{List, [], ◌++◌, ℕ, zero, suc}
use Rattle.model.specs.Slots.{Slot, View, height}
use Rattle.model.specs.Reached.{flat, kept}
use Rattle.walk_laws.specs.Chain.{along, chain}

-- the d levels from the one of node n down
unfoldable pub levels : View → (d n : ℕ) → List ℕ
levels v zero n = []
levels v (suc d) n = along v v.nodes n ++ levels v d (v.node n).left

-- those above the leaves; and the leaves after them
abbrev pub above : View → List ℕ
above v = levels v (height v) v.root

abbrev pub rows : View → List ℕ
rows v = above v ++ chain v

abbrev pub pairs_along : View → List Slot
pairs_along v = flat (kept v) (chain v)
