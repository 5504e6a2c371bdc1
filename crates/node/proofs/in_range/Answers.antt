-- `node::in_range` meets its contract.
use Rattle.std.proofs.Common.{arith}
use Rattle.std.proofs.lemmas.Bool.Decides.{nat_tests}
use Rattle.std.proofs.lemmas.Grind.{common_steps}
use Rattle.model.specs.Table.{in_range}
use Rattle.node.proofs.in_range.Goals as goal

pub returns : goal.returns
unfolding in_range
returns c = grind (arith, common_steps, nat_tests)
