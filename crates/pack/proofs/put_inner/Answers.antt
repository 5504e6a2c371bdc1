-- `pack::put_inner` meets its contract.
use Prim.Native.Nat.{◌*◌}
use Rattle.pack.proofs.Filling.{inner-made}
use Rattle.pack.proofs.put_inner.Goals as goal

pub returns : goal.returns
returns c = let a = c.args in
    inner-made _ a.nodes.now a.nodes.now _ _ a.first a.count a.level a.k a.end (32 * a.k) _
    c.child_slots-slots.ensures c.next_number.ensures
    c.node_words.ensures c.put_words.ensures
