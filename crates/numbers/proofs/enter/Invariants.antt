-- What the tries that are left come to is what all of them come to.
use Rattle.std.proofs.Common.{◌≡◌, ◌-◌, ◌<◌, length}
use Rattle.numbers.specs.Cells.{tried, entered}
use Rattle.numbers.proofs.enter.Given as goal

abbrev pub invariant-loop : goal.invariant-loop
invariant-loop l =
    (l.places ≡ length l.initial.cells) × (l.at < l.places)
    × (tried l.places l.cells l.number l.at (l.tries - l.counter) ≡ entered l.tries l.initial.cells l.number)
