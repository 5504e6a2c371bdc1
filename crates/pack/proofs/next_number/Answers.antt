-- `pack::next_number` meets its contract.
use Rattle.pack.proofs.Filling.{next-some, next-none}
use Rattle.pack.proofs.next_number.Goals as goal

pub returns-then-k-e : goal.returns-then-k-e
returns-then-k-e c = next-some _ _ c.if-k-e.true

pub returns : goal.returns
returns c = next-none _ _ c.if-k-e.false
