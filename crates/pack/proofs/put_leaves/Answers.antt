-- `pack::put_leaves` meets its contract.
use Rattle.std.proofs.Common.{◌-◌, arith}
use Rattle.pack.proofs.Leaves.{written-start, written-step}
use Rattle.pack.proofs.put_leaves.Goals as goal

pub loop-j-init : goal.loop-j-init
loop-j-init c = written-start _ _ _ _ c.requires.0 c.requires.1 c.requires.2

pub loop-j-preserved : goal.loop-j-preserved
loop-j-preserved c = let l = c.loop-j in
    let t = c.loop-j-test.true in
    written-step _ _ _ _ c.requires.0 c.requires.1 c.requires.2 _ _ l.j (l.j - 1) (omega (arith, t)) l.invariant c.put_leaf.ensures
