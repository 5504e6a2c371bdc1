-- `recordings::once` meets its contract. The loop keeps that whatever is there twice is a suspect.
use Rattle.model.specs.Slots.{view}
use Rattle.recordings.specs.Marked.{marked_numbers}
use Rattle.recordings.specs.Rounds.{suspect, Stays}
use Rattle.recordings.proofs.once.Given as goal

abbrev pub invariant-loop-round : goal.invariant-loop-round
invariant-loop-round l = Stays (suspect l.round l.olds) (marked_numbers (view l.table) l.marks)
