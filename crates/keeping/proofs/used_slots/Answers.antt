-- `keeping::used_slots` meets its contract.
use Rattle.keeping.proofs.Used.{inner-none, leaf-used}
use Rattle.keeping.proofs.used_slots.Goals as goal

pub returns-then-x-ne0 : goal.returns-then-x-ne0
returns-then-x-ne0 c = inner-none _ _ _ c.read-x.ensures c.if-x-ne0.true

pub returns : goal.returns
returns c = let k = c.count in (leaf-used _ _ _ c.read-x.ensures c.if-x-ne0.false _ k.ensures.value, k.ensures.upper_bound)
