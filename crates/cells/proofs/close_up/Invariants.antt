-- What closing up from the present gap comes to is what all of it comes to.
use Rattle.std.proofs.Common.{◌≡◌, ◌-◌, ◌<◌, length}
use Rattle.model.specs.Cells.{next_cell, closed_up}
use Rattle.cells.proofs.close_up.Given as goal

abbrev pub invariant-loop : goal.invariant-loop
invariant-loop l = (l.places ≡ length l.initial.cells) × (l.gap < l.places) × (l.at < l.places)
    × (closed_up l.cells l.gap l.at (l.places - l.counter)
    ≡ closed_up l.initial.cells l.first (next_cell (length l.initial.cells) l.first) (length l.initial.cells))
