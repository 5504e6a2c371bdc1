-- `leaves::leftmost` meets its contract. The loop keeps the node that left leads to from the present one.
use Rattle.std.proofs.Common.{◌≡◌, ◌-◌}
use Rattle.model.specs.Slots.{view_from}
use Rattle.walk_laws.specs.Chain.{leftmost}
use Rattle.leaves.proofs.leftmost.Given as goal

abbrev pub invariant-loop : goal.invariant-loop
invariant-loop l = leftmost (view_from l.table l.from) (l.levels - l.counter) l.n ≡ leftmost (view_from l.table l.from) l.levels l.from
