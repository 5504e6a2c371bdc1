-- `leaves::ways_of` meets its contract.
use Rattle.leaves.proofs.WaysLaws.{ways-are}
use Rattle.leaves.proofs.ways_of.Goals as goal

pub returns : goal.returns
returns c = ways-are _ _ _ _ c.read-x.ensures c.word-bound.ensures c.gather.result c.gather.ensures
