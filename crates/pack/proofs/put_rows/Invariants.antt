-- `pack::put_rows` meets its contract.
use Rattle.pack.proofs.Raising.{Rising}
use Rattle.pack.proofs.put_rows.Given as goal

abbrev pub invariant-loop-level : goal.invariant-loop-level
invariant-loop-level l = Rising l.initial.nodes l.before l.leaves l.nodes l.first l.row l.level
