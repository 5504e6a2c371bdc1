-- `node::header` meets its contract.
use Rattle.model.specs.declared.Refusal.TheVariants.{NoTable}
use Rattle.model.proofs.Numbers.{passes, fails}
use Rattle.node.proofs.Roots.{header-refused, header-accepted}
use Rattle.node.proofs.header.Goals as goal

pub returns-then-root-eq0 : goal.returns-then-root-eq0
returns-then-root-eq0 c = fails NoTable (header-refused _ _ c.root.ensures c.if-root-eq0.true)

pub returns : goal.returns
returns c = passes (header-accepted _ _ c.root.ensures c.if-root-eq0.false)
