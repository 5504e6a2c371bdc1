-- `sentinels::is_leaf` meets its contract.
use Rattle.std.proofs.Common.{◌∙◌, ne_eqb}
use Rattle.sentinels.proofs.Renewing.{not-leaf, leaf-taken}
use Rattle.sentinels.proofs.is_leaf.Goals as goal

pub returns-then-word-eq0 : goal.returns-then-word-eq0
returns-then-word-eq0 c = leaf-taken c.args.table.now c.args.n _ c.requires c.word.ensures _ c.if-word-eq0.true c.is_taken.ensures

pub returns-else-word-eq0 : goal.returns-else-word-eq0
returns-else-word-eq0 c =
    ne_eqb c.word.result 0 c.if-word-eq0.false ∙ not-leaf c.args.table.now c.args.n _ c.requires c.word.ensures c.if-word-eq0.false
