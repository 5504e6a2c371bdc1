-- `pack::put_row` meets its contract.
use Rattle.pack.proofs.Rows.{Raised}
use Rattle.pack.proofs.put_row.Given as goal

abbrev pub invariant-loop-g : goal.invariant-loop-g
invariant-loop-g l = Raised l.initial.nodes l.first l.count l.level l.nodes l.g
