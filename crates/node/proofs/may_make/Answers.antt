-- `node::may_make` meets its contract.
use Rattle.std.proofs.Common.{sym, ◌∙◌, rules}
use Rattle.model.specs.declared.Refusal.TheVariants.{NoTable, NoCollection}
use Rattle.model.proofs.Numbers.{passes, fails}
use Rattle.node.proofs.Answers.{nodes-in-refused, nodes-in-found}
use Rattle.node.proofs.Making.{number-length, number-one, number-other, number-small, number-two}
use Rattle.node.proofs.may_make.Goals as goal

pub returns-then-n-eq0 : goal.returns-then-n-eq0
returns-then-n-eq0 c = fails NoTable (number-length _ _ (nodes-in-refused _ (sym c.nodes_in-n.ensures ∙ c.if-n-eq0.true)))

pub returns-in-1 : goal.returns-in-1
returns-in-1 c = passes (number-one _ _ _ (nodes-in-found _ _ c.nodes_in-n.ensures c.if-n-eq0.false) c.in-1.is)

pub returns-in-2 : goal.returns-in-2
returns-in-2 c = fails NoTable (number-small _ _ _ (nodes-in-found _ _ c.nodes_in-n.ensures c.if-n-eq0.false) c.in-2.is c.if-n-eq1.true)

pub returns-in-2-2 : goal.returns-in-2-2
returns-in-2-2 c = passes (number-two _ _ _ (nodes-in-found _ _ c.nodes_in-n.ensures c.if-n-eq0.false) c.in-2.is c.if-n-eq1.false)

pub returns-in_default : goal.returns-in_default
returns-in_default c =
    fails NoCollection (number-other _ _ _ (nodes-in-found _ _ c.nodes_in-n.ensures c.if-n-eq0.false) (search rules) (search rules))
