-- `short_scripts::run_all` meets its contract.
use native.Mathlib.Omega.{arith}
use Rattle.short_scripts.proofs.Running.{totals-start, script-runs, totals-next, totals-end}
use Rattle.short_scripts.proofs.run_all.Goals as goal

pub loop-number-init : goal.loop-number-init
loop-number-init c = totals-start

pub words_of-requires : goal.words_of-requires
words_of-requires c = omega arith

pub run-met-requires : goal.run-met-requires
run-met-requires c = script-runs _ _ c.words_of.ensures

pub overflow_add-tables : goal.overflow_add-tables
overflow_add-tables c = let r = c.loop-number.invariant in omega (arith, r.tables-few, r.place, c.run-met.ensures.tables-few)

pub overflow_add-bad : goal.overflow_add-bad
overflow_add-bad c = let r = c.loop-number.invariant in omega (arith, r.bad-few, r.place, c.run-met.ensures.bad-few)

pub loop-number-preserved : goal.loop-number-preserved
loop-number-preserved c = let l = c.loop-number in
    let m = c.run-met in
    totals-next l.tables l.bad l.number _ m.result l.invariant (omega arith) c.words_of.ensures m.ensures

pub returns : goal.returns
returns c = let both = totals-end _ _ _ c.loop-number.invariant (omega arith) in record { tables_value = both.0; bad_value = both.1 }
