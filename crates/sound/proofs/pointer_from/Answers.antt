-- `sound::pointer_from` meets its contract.
use Rattle.sound.proofs.CheckLaws.{pointer-past, pointer-here}
use Rattle.sound.proofs.pointer_from.Goals as goal

pub returns-then-w-i : goal.returns-then-w-i
returns-then-w-i c = pointer-past _ _ _ c.if-w-i.true

pub returns : goal.returns
returns c = pointer-here _ _ _ c.if-w-i.false
