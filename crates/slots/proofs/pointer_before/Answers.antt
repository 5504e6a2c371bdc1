-- `slots::pointer_before` meets its contract.
use Rattle.slots.proofs.Places.{pointer-first, pointer-later}
use Rattle.slots.proofs.pointer_before.Goals as goal

pub returns-then-p-eq0-clause-last : goal.returns-then-p-eq0-clause-last
returns-then-p-eq0-clause-last c h = pointer-first _ _ _ c.if-p-eq0.true

pub returns-clause-last : goal.returns-clause-last
returns-clause-last c h = pointer-later _ _ _ h c.if-p-eq0.false
