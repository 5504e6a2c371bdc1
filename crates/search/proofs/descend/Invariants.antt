-- `search::descend` meets its contract. The loop keeps that from the node stood on the same is seen of the leaf as from the root.
use mathlib.Core.Path.{◌≡◌}
use Rattle.model.specs.Slots.{view}
use Rattle.search.specs.Descent.{seen_in, locate_from}
use Rattle.search.proofs.Standing.{from_there}
use Rattle.search.proofs.descend.Given as goal

abbrev pub invariant-loop-level : goal.invariant-loop-level
invariant-loop-level l =
    from_there (view l.table) l.key l.level l.s ≡ seen_in (view l.table) l.key (locate_from (view l.table) l.root l.key)
