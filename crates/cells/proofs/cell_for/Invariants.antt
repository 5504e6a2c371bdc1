-- What the cells that are left come to is what all of them come to.
use Rattle.std.proofs.Common.{◌≡◌, ◌-◌, ◌<◌, length}
use Rattle.model.specs.Cells.{seek, cell_for}
use Rattle.cells.proofs.cell_for.Given as goal

abbrev pub invariant-loop : goal.invariant-loop
invariant-loop l = (l.places ≡ length l.cells) × (l.at < l.places)
    × (seek l.cells l.number l.at (l.places - l.counter) ≡ cell_for l.cells l.number)
