-- `keeping::count_used` meets its contract.
use Rattle.keeping.proofs.Used.{Using}
use Rattle.keeping.proofs.count_used.Given as goal

abbrev pub invariant-loop-n : goal.invariant-loop-n
invariant-loop-n l = Using l.table l.order l.used l.n-index
