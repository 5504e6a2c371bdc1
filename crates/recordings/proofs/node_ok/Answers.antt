-- `recordings::node_ok` meets its contract.
use Rattle.std.proofs.Common.{ap, sym, ◌∙◌}
use Rattle.model.specs.SoundTest.{all, pair_ok}
use Rattle.recordings.proofs.LeafLaws.{none-own}
use Rattle.recordings.proofs.node_ok.Goals as goal

pub returns-then-not-is_leaf : goal.returns-then-not-is_leaf
unfolding all
returns-then-not-is_leaf c = ap (all pair_ok) (none-own _ _ _ _ c.is_leaf.ensures c.if-not-is_leaf.true)

pub read_leaf-x-requires : goal.read_leaf-x-requires
read_leaf-x-requires c = sym c.is_leaf.ensures ∙ c.if-not-is_leaf.false

pub returns : goal.returns
returns c = c.leaf_ok.ensures ∙ ap (all pair_ok) c.read_leaf-x.ensures
