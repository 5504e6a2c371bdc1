-- `short_scripts::run` meets its contract.
use Rattle.short_scripts.proofs.Running.{Running}
use Rattle.short_scripts.proofs.run.Given as goal

abbrev pub invariant-loop-action : goal.invariant-loop-action
invariant-loop-action l = Running l.actions l.table l.held l.tables l.bad l.action-index
