-- `pairs::once` meets its contract. The loop keeps that no number of the passes so far is twice.
use Rattle.std.proofs.Common.{◌+◌, ◌-◌, map}
use Rattle.model.specs.Slots.{recording, slots_of}
use Rattle.numbers.specs.Cells.{SPREAD}
use Rattle.pairs.proofs.Passes.{Passed}
use Rattle.pairs.proofs.once.Given as goal

abbrev pub invariant-loop-low : goal.invariant-loop-low
invariant-loop-low l = Passed (map recording (slots_of l.pairs)) l.low l.width

abbrev pub decreases-loop-low : goal.decreases-loop-low
decreases-loop-low l = (SPREAD - l.low) + l.width
