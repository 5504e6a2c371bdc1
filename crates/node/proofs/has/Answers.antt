-- `node::has` meets its contract.
use Rattle.std.proofs.Common.{sym, arith}
use Rattle.node.proofs.Answers.{has-none, has-divided}
use Rattle.node.proofs.has.Goals as goal

pub returns-then-i-eq0 : goal.returns-then-i-eq0
returns-then-i-eq0 c = sym (has-none _ _ (λ p l. omega arith))

pub returns-then-len-lt8 : goal.returns-then-len-lt8
returns-then-len-lt8 c = sym (has-none _ _ (λ p l. omega arith))

pub returns : goal.returns
returns c = has-divided _ _ (omega arith) (omega arith)
