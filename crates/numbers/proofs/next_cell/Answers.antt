-- `numbers::next_cell` meets its contract.
use Rattle.numbers.proofs.Trying.{next-first, next-up}
use Rattle.numbers.proofs.next_cell.Goals as goal

pub returns-then-next-places-clause-value : goal.returns-then-next-places-clause-value
returns-then-next-places-clause-value c = next-first _ _ c.if-next-places.true

pub returns-clause-value : goal.returns-clause-value
returns-clause-value c = next-up _ _ c.if-next-places.false
