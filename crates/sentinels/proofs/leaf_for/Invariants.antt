-- `sentinels::leaf_for` meets its contract. The loop keeps that from the node stood on the same leaf is come to as from the root.
use Rattle.std.proofs.Common.{◌≡◌, ◌-◌, ◌<◌}
use Rattle.model.specs.Slots.{view}
use Rattle.model.specs.Search.{locate}
use Rattle.search.specs.Descent.{locate_from}
use Rattle.sentinels.proofs.leaf_for.Given as goal

abbrev pub invariant-loop-level : goal.invariant-loop-level
invariant-loop-level l = (locate (view l.table) (l.level - 1) l.s.way l.key ≡ locate_from (view l.table) l.root l.key) × (0 < l.level)
