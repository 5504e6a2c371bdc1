-- `node::nodes_in` meets its contract.
use Rattle.std.proofs.Common.{sym, arith}
use Rattle.model.specs.Table.{nodes_for}
use Rattle.node.proofs.Answers.{length-refused, nodes-in-none, nodes-in-some}
use Rattle.node.proofs.nodes_in.Goals as goal

pub returns-then-len-lt40 : goal.returns-then-len-lt40
unfolding nodes_for
returns-then-len-lt40 c = sym (nodes-in-none _ (length-refused _ (λ f. omega arith)))

pub returns-then-n-gt65535 : goal.returns-then-n-gt65535
unfolding nodes_for
returns-then-n-gt65535 c = sym (nodes-in-none _ (length-refused _ (λ f. omega arith)))

pub returns-then-n-len : goal.returns-then-n-len
unfolding nodes_for
returns-then-n-len c = sym (nodes-in-none _ (length-refused _ (λ f. omega arith)))

pub returns : goal.returns
returns c = sym (nodes-in-some _ _ (omega arith))
