-- `node::word` meets its contract.
use Rattle.std.proofs.Common.{sym, arith}
use Rattle.node.proofs.Answers.{start-found, start-missing, word-none, word-past, word-found}
use Rattle.node.proofs.word.Goals as goal

pub returns-then-j-ge32 : goal.returns-then-j-ge32
returns-then-j-ge32 c = sym (word-past _ _ _ c.if-j-ge32.true)

pub returns-then-w-eq0 : goal.returns-then-w-eq0
returns-then-w-eq0 c = sym (word-none _ _ _ (start-missing _ _ _ c.start-w.ensures c.if-w-eq0.true))

pub overflow_add-result : goal.overflow_add-result
overflow_add-result c = record { fits = omega (arith, start-found _ _ _ c.start-w.ensures c.if-w-eq0.false) }

pub offset_bounds-table-w : goal.offset_bounds-table-w
offset_bounds-table-w c = omega (arith, start-found _ _ _ c.start-w.ensures c.if-w-eq0.false)

pub bounds-table-w : goal.bounds-table-w
bounds-table-w c = omega (arith, start-found _ _ _ c.start-w.ensures c.if-w-eq0.false)

pub returns : goal.returns
returns c = sym (word-found _ _ _ _ (start-found _ _ _ c.start-w.ensures c.if-w-eq0.false) c.if-j-ge32.false)
