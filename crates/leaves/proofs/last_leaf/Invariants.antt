-- `leaves::last_leaf` meets its contract. The loop keeps the leaf that the last child leads to from the present node.
use Rattle.std.proofs.Common.{◌≡◌, ◌-◌}
use Rattle.model.specs.Slots.{view_from}
use Rattle.walk_laws.specs.Chain.{rightmost, last_leaf}
use Rattle.leaves.proofs.last_leaf.Given as goal

abbrev pub invariant-loop : goal.invariant-loop
invariant-loop l = rightmost (view_from l.table l.root) (l.end - l.counter) l.n ≡ last_leaf (view_from l.table l.root)
