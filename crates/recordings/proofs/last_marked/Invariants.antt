-- `recordings::last_marked` meets its contract. The loop keeps that no node above m is marked.
use Rattle.model.specs.Table.{nodes}
use Rattle.recordings.specs.Marked.{LastMarked}
use Rattle.recordings.proofs.last_marked.Given as goal

abbrev pub invariant-loop-m : goal.invariant-loop-m
invariant-loop-m l = LastMarked (nodes l.table) l.marks l.m

abbrev pub decreases-loop-m : goal.decreases-loop-m
decreases-loop-m l = l.m
