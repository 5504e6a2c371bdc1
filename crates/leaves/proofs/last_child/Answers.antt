-- `leaves::last_child` meets its contract.
use mathlib.Core.Path.{refl}
use Rattle.leaves.proofs.HitLaws.{some-way, last-alone, last-beside}
use Rattle.leaves.proofs.last_child.Goals as goal

pub overflow_sub-last : goal.overflow_sub-last
overflow_sub-last c = some-way _ _ c.ways_of-w.result c.ways_of-w.ensures

pub returns-then-sibling-eq0 : goal.returns-then-sibling-eq0
returns-then-sibling-eq0 c = last-alone _ _ c.ways_of-w.result c.ways_of-w.ensures _ _ refl c.word-sibling.ensures c.if-sibling-eq0.true

pub returns-else-sibling-eq0 : goal.returns-else-sibling-eq0
returns-else-sibling-eq0 c = last-beside _ _ c.ways_of-w.result c.ways_of-w.ensures _ _ refl c.word-sibling.ensures c.if-sibling-eq0.false
