-- `marks::first_free` meets its contract. The loop keeps what the nodes from n on come to.
use Rattle.std.proofs.Common.{sym, ◌∙◌, arith}
use Rattle.model.specs.Summary.{unmarked}
use Rattle.marks.proofs.Rows.{first-none, first-here, first-past}
use Rattle.marks.proofs.first_free.Goals as goal

pub returns-then-run-eq0 : goal.returns-then-run-eq0
unfolding unmarked
returns-then-run-eq0 c = sym (first-here _ _ _ c.loop-n-test.true (c.taken_run-run.ensures.none c.if-run-eq0.true)) ∙ c.loop-n.invariant

pub overflow_add-n : goal.overflow_add-n
overflow_add-n c = omega (arith, c.taken_run-run.ensures.short)

pub loop-n-preserved : goal.loop-n-preserved
unfolding unmarked
loop-n-preserved c = first-past _ _ _ _ c.taken_run-run.ensures.run ∙ c.loop-n.invariant

pub returns : goal.returns
unfolding unmarked
returns c = sym (first-none _ _ _ (let t = c.loop-n-test.false in omega (arith, t))) ∙ c.loop-n.invariant
