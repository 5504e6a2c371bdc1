-- `pack::leaf_slots` meets its contract.
use Rattle.std.proofs.Common.{◌≡◌, ◌+◌, ◌-◌, ◌*◌, arith}
use Rattle.pack.proofs.Filling.{leaf-copied}
use Rattle.pack.proofs.leaf_slots.Goals as goal

pub returns : goal.returns
returns c = let a = c.args in
    let r = c.requires in
    let k = c.min-count.result in
    let e : 22 * a.j + k - 22 * a.j ≡ k = omega arith in
    leaf-copied a.nodes.now a.pairs a.j _ _ r.0 r.1 c.min-count.ensures (rw e at c.copy_from_slice.ensures.after)
