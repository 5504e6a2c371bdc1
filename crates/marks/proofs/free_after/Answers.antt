-- `marks::free_after` meets its contract.
use Rattle.model.specs.Summary.{unmarked, free_after}
use Rattle.marks.proofs.Rows.{round-next, round-on}
use Rattle.marks.proofs.free_after.Goals as goal

pub returns-then-n-ne0 : goal.returns-then-n-ne0
unfolding free_after unmarked
returns-then-n-ne0 c = round-next _ _ _ _ c.first_free-n.ensures c.if-n-ne0.true

pub returns : goal.returns
unfolding free_after unmarked
returns c = round-on _ _ _ _ _ c.first_free-n.ensures c.if-n-ne0.false (rw c.saturating_sub.ensures at c.first_free.ensures)
