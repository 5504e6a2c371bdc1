-- `statistics::second_tree` meets its contract.
use Rattle.statistics.proofs.Trees.{second-ready, second-none, second-words}
use Rattle.statistics.proofs.second_tree.Goals as goal

pub returns-then-root-eq0 : goal.returns-then-root-eq0
returns-then-root-eq0 c = second-none c.args.table.now _ c.word_at-root.ensures c.if-root-eq0.true

pub tree_of-requires : goal.tree_of-requires
tree_of-requires c = let both =
    second-ready _ c.requires.table_value _ c.word_at-root.ensures c.if-root-eq0.false _ c.requires.nodes_len in record
    { table_value = both.0; root_value = both.1.0; nodes_value = both.1.1 }

pub returns : goal.returns
returns c = second-words c.args.table.now _ c.word_at-root.ensures c.if-root-eq0.false _ c.tree_of.ensures
