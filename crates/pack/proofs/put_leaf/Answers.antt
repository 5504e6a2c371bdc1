-- `pack::put_leaf` meets its contract.
use Prim.Native.Nat.{◌*◌}
use Rattle.pack.proofs.Filling.{leaf-made}
use Rattle.pack.proofs.put_leaf.Goals as goal

pub returns : goal.returns
returns c = let a = c.args in
    leaf-made _ a.nodes.now a.nodes.now _ _ a.before a.pairs a.leaves a.j (32 * a.j) _ _ c.leaf_slots-slots.ensures
    c.leaf_fence-fence.ensures
    c.next_number.ensures c.node_words.ensures c.put_words.ensures
