-- `listing::list_from` meets its contract. The loop keeps what taking the pairs of the leaves ahead comes to.
use Rattle.model.specs.Slots.{view}
use Rattle.leaves.specs.Siblings.{siblings_left}
use Rattle.listing.specs.Taking.{sheet, begun, all_taken, pairs_from}
use Rattle.listing.proofs.Pairs.{Spent}
use Rattle.listing.proofs.Leaves.{Ahead}
use Rattle.listing.proofs.list_from.Given as goal

abbrev pub invariant-loop-leaf : goal.invariant-loop-leaf
invariant-loop-leaf l = Spent (sheet l.out l.p)
    × Ahead l.table l.low l.high (siblings_left l.leaf-iterator) (sheet l.out l.p)
    (all_taken (pairs_from (view l.table) l.low l.high l.first) (begun l.initial.out))
