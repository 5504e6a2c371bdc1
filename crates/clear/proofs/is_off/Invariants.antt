-- What the tries that are left come to is what all of them come to.
use Rattle.std.proofs.Common.{◌≡◌, ◌-◌, ◌<◌}
use Rattle.numbers.specs.Cells.{CELLS, TRIES}
use Rattle.clear.specs.New.{off_from, off}
use Rattle.clear.proofs.is_off.Given as goal

abbrev pub invariant-loop : goal.invariant-loop
invariant-loop l = (l.at < CELLS) × (off_from CELLS l.cells l.number l.at (TRIES - l.counter) ≡ off l.cells l.number)
