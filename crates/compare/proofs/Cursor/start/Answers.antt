-- `compare::Cursor::start` meets its contract.
use Rattle.compare.proofs.Places.{pairs-start}
use Rattle.compare.proofs.Cursor.start.Goals as goal

pub returns : goal.returns
returns c = let a = c.args in pairs-start a.table.now a.root _ _ _ _ _ c.first_leaf.ensures c.word_at.ensures
