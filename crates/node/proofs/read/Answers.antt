-- `node::read` meets its contract.
use Rattle.std.proofs.Common.{sym, arith}
use Rattle.node.proofs.Answers.{start-found, start-missing, node-none, node-some}
use Rattle.node.proofs.read.Goals as goal

pub returns-then-w-eq0 : goal.returns-then-w-eq0
returns-then-w-eq0 c = sym (node-none _ _ (start-missing _ _ _ c.start-w.ensures c.if-w-eq0.true))

pub overflow_add-w : goal.overflow_add-w
overflow_add-w c = record { fits = omega (arith, start-found _ _ _ c.start-w.ensures c.if-w-eq0.false) }

pub slots_from-slots-requires : goal.slots_from-slots-requires
slots_from-slots-requires c = omega (arith, start-found _ _ _ c.start-w.ensures c.if-w-eq0.false)

pub returns : goal.returns
returns c = sym (node-some _ _ _ _ (start-found _ _ _ c.start-w.ensures c.if-w-eq0.false) c.slots_from-slots.ensures)
