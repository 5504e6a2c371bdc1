-- `recordings::is_leaf` meets its contract.
use Rattle.recordings.proofs.LeafLaws.{leaf-unmarked, leaf-marked}
use Rattle.recordings.proofs.is_leaf.Goals as goal

pub returns-then-has : goal.returns-then-has
returns-then-has c = let a = c.args in leaf-marked a.table.now a.marks.now a.n _ c.has.ensures c.if-has.true _ c.word.ensures

pub returns-else-has : goal.returns-else-has
returns-else-has c = let a = c.args in leaf-unmarked a.table.now a.marks.now a.n _ c.has.ensures c.if-has.false
