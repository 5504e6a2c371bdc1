-- `marks::few_after` meets its contract.
use Rattle.model.specs.Summary.{unmarked}
use Rattle.marks.proofs.Rows.{few-yes, few-no, few-next, first-small}
use Rattle.marks.proofs.few_after.Goals as goal

pub returns-then-after-eq0 : goal.returns-then-after-eq0
unfolding unmarked
returns-then-after-eq0 c = few-yes _ _ _ _ _ _ _ c.loop.invariant.1 c.first_free-after.ensures c.if-after-eq0.true c.loop-test.true

pub loop-preserved : goal.loop-preserved
unfolding unmarked
loop-preserved c =
    let f = c.first_free-after.ensures in
    (first-small _ _ _ _ c.requires.nodes_bound f, few-next _ _ _ _ _ _ c.loop.invariant.1 f c.if-after-eq0.false)

pub returns : goal.returns
unfolding unmarked
returns c = few-no _ _ _ _ _ _ c.loop.invariant.1 c.loop-test.false
