-- `keeping::count_kept` meets its contract.
use Rattle.keeping.proofs.Nodes.{Counting}
use Rattle.keeping.proofs.count_kept.Given as goal

abbrev pub invariant-loop-j : goal.invariant-loop-j
invariant-loop-j l = Counting l.table l.order l.marks l.kept l.j
