-- `tour::tour` meets its contract.
use Rattle.tour.proofs.Going.{measure}
use Rattle.tour.proofs.State.{State, whole_from}
use Rattle.tour.proofs.tour.Given as goal

abbrev pub invariant-loop-depth : goal.invariant-loop-depth
invariant-loop-depth l =
    State l.table (whole_from l.table l.root l.before l.initial.order) l.before l.marks l.stack l.ways l.order l.count l.depth

abbrev pub decreases-loop-depth : goal.decreases-loop-depth
decreases-loop-depth l = measure l.table l.ways l.count l.depth
