-- `statistics::tree_of` meets its contract.
use Rattle.std.proofs.Common.{arith, rules}
use Rattle.statistics.proofs.Codes.{top-few, tree-words}
use Rattle.statistics.proofs.tree_of.Goals as goal

pub codes_of-codes-requires : goal.codes_of-codes-requires
codes_of-codes-requires c = record { table_value = search rules; root_value = search rules }

pub overflow_add-result : goal.overflow_add-result
overflow_add-result c = omega (arith, top-few c.args.table.now c.args.root c.requires.root_value _ c.word-top.ensures)

pub returns : goal.returns
returns c = tree-words _ _ c.requires.root_value _ c.word-top.ensures _ _ c.requires.nodes_value c.codes_of-codes.ensures
