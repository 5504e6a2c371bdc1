-- What the marks come to with the levels that are left.
use Rattle.std.proofs.Common.{◌≡◌, ◌-◌}
use Rattle.model.specs.Slots.{view_from, height}
use Rattle.model.specs.Marks.{put_each}
use Rattle.opening.specs.Passes.{levels, above}
use Rattle.opening.proofs.mark_above.Given as goal

abbrev pub invariant-loop : goal.invariant-loop
invariant-loop l = let v =
    view_from l.table l.root in put_each (levels v (height v - l.counter) l.first) l.marks ≡ put_each (above v) l.initial.marks
