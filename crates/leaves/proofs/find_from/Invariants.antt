-- `leaves::find_from` meets its contract. Both loops keep what looking on, from the present leaf and way, comes to, and that nothing is
-- found yet.
use Rattle.std.proofs.Common.{◌≡◌}
use Rattle.std.specs.Prelude.{None}
use Rattle.model.specs.Slots.{view}
use Rattle.leaves.specs.Hits.{hit_along}
use Rattle.leaves.specs.Siblings.{siblings_left}
use Rattle.leaves.proofs.HitLaws.{Ahead, Within}
use Rattle.leaves.proofs.find_from.Given as goal

abbrev pub invariant-loop-i : goal.invariant-loop-i
invariant-loop-i l = (l.hit ≡ None)
    × Within l.table l.recording (hit_along (view l.table) l.most l.first l.recording) l.leaf (siblings_left l.leaf-iterator)
    l.w.count l.w.pointers l.i

abbrev pub invariant-leaves : goal.invariant-leaves
invariant-leaves l =
    (l.hit ≡ None) × Ahead l.table l.recording (hit_along (view l.table) l.most l.first l.recording) (siblings_left l.leaf-iterator)
