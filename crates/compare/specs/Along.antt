-- The slots of the map, leaf by leaf.
use Rattle.std.specs.Prelude.{List, ℕ}
use Rattle.model.specs.Slots.{Slot, View}
use Rattle.model.specs.Reached.{flat, kept}
use Rattle.walk_laws.specs.Chain.{along, chain}

-- in the leaves from this one on along the siblings, at most so many; in all of them
abbrev pub pairs_along : View → ℕ → ℕ → List Slot
pairs_along v left leaf = flat (kept v) (along v left leaf)

abbrev pub all_pairs : View → List Slot
all_pairs v = flat (kept v) (chain v)
