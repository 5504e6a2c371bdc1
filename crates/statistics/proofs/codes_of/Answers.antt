-- `statistics::codes_of` meets its contract.
use native.Mathlib.Omega.{arith}
use Rattle.table_laws.proofs.Header.{nodes-few}
use Rattle.statistics.proofs.Codes.{codes-all}
use Rattle.statistics.proofs.codes_of.Goals as goal

pub codes_along-requires : goal.codes_along-requires
codes_along-requires c = omega (arith, c.word_at-most.ensures, nodes-few c.args.table.now c.requires.table_value)

pub returns : goal.returns
returns c = codes-all c.args.table.now c.args.root c.requires.root_value _ _ _ c.first_leaf-first.ensures
    c.word_at-most.ensures c.codes_along.ensures
