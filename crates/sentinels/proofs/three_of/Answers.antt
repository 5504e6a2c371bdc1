-- `sentinels::three_of` meets its contract.
use Rattle.sentinels.proofs.Renewing.{no-words, leaf-there, leaf-words}
use Rattle.sentinels.proofs.three_of.Goals as goal

pub returns-then-not-is_leaf : goal.returns-then-not-is_leaf
returns-then-not-is_leaf c = no-words c.args.table.now c.args.n _ c.is_leaf.ensures c.if-not-is_leaf.true

pub words-node-requires : goal.words-node-requires
words-node-requires c = leaf-there c.args.table.now c.args.n c.requires _ c.is_leaf.ensures c.if-not-is_leaf.false

pub returns : goal.returns
returns c =
    leaf-words c.args.table.now c.args.n c.requires _ c.is_leaf.ensures c.if-not-is_leaf.false _ _ _ _ c.words-node.ensures
    c.line_key.ensures c.line_key-2.ensures c.line_key-3.ensures
