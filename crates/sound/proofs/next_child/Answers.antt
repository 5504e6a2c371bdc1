-- `sound::next_child` meets its contract.
use Rattle.sound.proofs.NodeLaws.{next-none, next-some}
use Rattle.sound.proofs.next_child.Goals as goal

pub returns-then-s-eq0 : goal.returns-then-s-eq0
returns-then-s-eq0 c = next-none _ _ _ c.word-s.ensures c.if-s-eq0.true

pub returns-else-s-eq0 : goal.returns-else-s-eq0
returns-else-s-eq0 c = next-some _ _ _ _ c.word-s.ensures c.if-s-eq0.false c.word.ensures
