-- `carry::apply_one` meets its contract.
use Rattle.std.proofs.Common.{refl, inl, inr}
use Rattle.model.specs.Orders.{carry}
use Rattle.carry.proofs.apply_one.Goals as goal

pub returns-in-Store : goal.returns-in-Store
unfolding carry
returns-in-Store c = rw c.in-Store.is refl

pub returns-in-Flush : goal.returns-in-Flush
unfolding carry
returns-in-Flush c = elim c.in-Flush.is [ inl p ↦ rw p.1 refl | inr e ↦ rw e refl ]
