-- `gather::gather_nodes` meets its contract.
use borrow.Author.Rules.{rules}
use Rattle.gather.proofs.Leaves.{walking-start, walking-room, walking-most, walking-step, walking-end}
use Rattle.gather.proofs.gather_nodes.Goals as goal

pub loop-n-init : goal.loop-n-init
loop-n-init c = (c.requires.0, c.requires.2, walking-start _ _ _ _ _ c.requires.0 c.requires.2 c.requires.1)

pub gather_node-p-requires : goal.gather_node-p-requires
gather_node-p-requires c = let l = c.loop-n.invariant in
    let t = c.loop-n-test.true in
    (l.2.standing, walking-room _ _ _ _ _ l.0 l.1 _ _ _ _ l.2 t, walking-most _ _ _ _ _ l.0 l.1 _ _ _ _ l.2 t)

pub loop-n-preserved : goal.loop-n-preserved
loop-n-preserved c = let l = c.loop-n.invariant in
    let t = c.loop-n-test.true in (
      l.0,
      l.1,
      walking-step _ _ _ _ _ l.0 l.1 _ _ _ _ l.2 t _ _ _ c.gather_node-p.ensures.result_after c.gather_node-p.ensures.standing.0
          c.gather_node-p.ensures.standing.1 (search rules) (search rules),
    )

pub returns : goal.returns
returns c = let l = c.loop-n.invariant in let both =
    walking-end _ _ _ _ _ l.0 l.1 _ _ _ _ l.2 c.loop-n-test.false in record { result_after = both.0; standing = both.1 }
