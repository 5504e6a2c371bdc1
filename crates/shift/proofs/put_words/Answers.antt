-- `shift::put_words` meets its contract. The loop's invariant: the words from j on are left, and lead to what all of them lead to.
use Rattle.std.proofs.Common.{add-zero, arith}
use Rattle.orders.proofs.Rest.{rest-start, rest-same, rest-one, rest-next, rest-none, rest-size}
use Rattle.shift.proofs.NodeWords.{put-next, put-end}
use Rattle.shift.proofs.put_words.Goals as goal

pub loop-j-init : goal.loop-j-init
loop-j-init c = record { left = rest-same (rw add-zero) (rest-start c.requires) }

pub overflow_add-w : goal.overflow_add-w
overflow_add-w c = let l =
    c.loop-j in omega (
      arith,
      (rest-one (rest-same (put-next _ _ l.j (omega arith)) l.invariant.left)).inside.0,
      rest-size _ _ l.invariant.left,
      c.well_formed,
    )

pub store-requires : goal.store-requires
store-requires c = let l = c.loop-j in rest-one (rest-same (put-next _ _ l.j (omega arith)) l.invariant.left)

pub loop-j-preserved : goal.loop-j-preserved
loop-j-preserved c = let l =
    c.loop-j in record { left = rest-next (rest-same (put-next _ _ l.j (omega arith)) l.invariant.left) c.store.ensures }

pub returns : goal.returns
returns c = let l = c.loop-j in rest-none (rest-same (put-end _ _ l.j (omega arith)) l.invariant.left)
