-- `compare::same_but` meets its contract. The loop keeps what is left to compare.
use Rattle.model.specs.Slots.{view_from, view}
use Rattle.compare.specs.Along.{all_pairs}
use Rattle.compare.specs.Cursors.{distance, same_but}
use Rattle.compare.proofs.Places.{Comparing}
use Rattle.compare.proofs.same_but.Given as goal

abbrev pub invariant-loop-a : goal.invariant-loop-a
invariant-loop-a l =
    Comparing (view l.image) (view l.table) l.key
    (same_but l.key (all_pairs (view_from l.image l.top)) (all_pairs (view_from l.table l.root))) l.a l.b

abbrev pub decreases-loop-a : goal.decreases-loop-a
decreases-loop-a l = distance l.a
