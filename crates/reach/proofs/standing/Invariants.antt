-- `reach::standing` meets its contract. The loop's invariant: the descent from here on stands on the level where the whole one does.
use Rattle.std.proofs.Common.{◌≡◌, ◌+◌, ◌-◌}
use Rattle.model.specs.Slots.{view_from, view}
use Rattle.model.specs.Writes.{standing_in}
use Rattle.reach.proofs.Descent.{node_on}
use Rattle.reach.proofs.standing.Given as goal

abbrev pub invariant-loop : goal.invariant-loop
invariant-loop l = node_on (view l.table) (l.top + l.level - l.counter) l.n l.key l.level
    ≡ standing_in (view_from l.table l.root) l.level l.key
