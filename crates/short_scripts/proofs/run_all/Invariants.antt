-- `short_scripts::run_all` meets its contract.
use Rattle.short_scripts.proofs.Running.{Totals}
use Rattle.short_scripts.proofs.run_all.Given as goal

abbrev pub invariant-loop-number : goal.invariant-loop-number
invariant-loop-number l = Totals l.tables l.bad l.number
