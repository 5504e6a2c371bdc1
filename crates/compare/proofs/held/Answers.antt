-- `compare::held` meets its contract.
use Rattle.compare.proofs.Trees.{leaf-held}
use Rattle.compare.proofs.held.Goals as goal

pub returns : goal.returns
returns c = leaf-held c.args.table.now c.args.root c.args.key _ c.read-x.result _ c.requires c.standing-leaf.ensures
    c.read-x.ensures c.find.ensures
