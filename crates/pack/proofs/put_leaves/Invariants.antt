-- `pack::put_leaves` meets its contract.
use Rattle.pack.proofs.Leaves.{Written}
use Rattle.pack.proofs.put_leaves.Given as goal

abbrev pub invariant-loop-j : goal.invariant-loop-j
invariant-loop-j l = Written l.initial.nodes l.before l.pairs l.leaves l.nodes l.j
