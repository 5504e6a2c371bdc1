-- `script_bytes::longer` meets its contract.
use borrow.Author.Tests.{lt-ltb, le-ltb}
use Rattle.script_bytes.specs.Line.{longer}
use Rattle.script_bytes.proofs.longer.Goals as goal

pub returns-then-text-ge12 : goal.returns-then-text-ge12
unfolding longer
returns-then-text-ge12 c = rw (le-ltb _ _ c.if-text-ge12.true)

pub returns : goal.returns
unfolding longer
returns c = rw (lt-ltb _ _ c.if-text-ge12.false)
