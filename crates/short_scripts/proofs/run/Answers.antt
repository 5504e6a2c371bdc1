-- `short_scripts::run` meets its contract.
use native.Mathlib.Omega.{arith}
use Rattle.short_scripts.proofs.Words.{form-says}
use Rattle.short_scripts.proofs.Running.{running-start, running-next, running-end}
use Rattle.short_scripts.proofs.run.Goals as goal

pub actions_in-actions-requires : goal.actions_in-actions-requires
actions_in-actions-requires c = (form-says c.args.words c.requires).0

pub loop-action-init : goal.loop-action-init
loop-action-init c =
    rw c.actions_in-actions.ensures (running-start c.args.words c.first_table-table.result c.requires c.first_table-table.ensures)

pub act-met-requires : goal.act-met-requires
act-met-requires c = let r = c.loop-action.invariant in record { table_value = r.fine; table_value_2 = r.map-is }

pub overflow_add-tables : goal.overflow_add-tables
overflow_add-tables c = let r = c.loop-action.invariant in omega (arith, r.tables-few, r.few, c.act-met.ensures.acts.tables-few)

pub overflow_add-bad : goal.overflow_add-bad
overflow_add-bad c = let r = c.loop-action.invariant in omega (arith, r.bad-few, r.few, c.act-met.ensures.acts.bad-few)

pub loop-action-preserved : goal.loop-action-preserved
loop-action-preserved c = let a =
    c.act-met in running-next c.loop-action.invariant a.result a.new.held a.new.table (omega arith) a.ensures.acts a.ensures.table_after

pub returns : goal.returns
returns c = rw c.actions_in-actions.ensures at (running-end c.loop-action.invariant (omega arith))
