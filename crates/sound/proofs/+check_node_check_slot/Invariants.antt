-- `sound::check_node` and `sound::check_slot`: the level falls. The loop keeps what checking the ways from i on, from the present state,
-- comes to.
use Prim.Native.Nat.{◌+◌, ◌-◌, ◌*◌}
use Rattle.std.specs.Prelude.{Some}
use Rattle.model.specs.Slots.{view}
use Rattle.sound.proofs.CheckLaws.{Rest}
use Rattle.sound.proofs.MarkLaws.{Marking}
use Rattle.sound.proofs.+check_node_check_slot.Given as goal

abbrev pub decreases-check_node : goal.decreases-check_node
decreases-check_node l = 2 * l.level

abbrev pub decreases-check_slot : goal.decreases-check_slot
decreases-check_slot l = 2 * l.level + 1

abbrev pub invariant-check_node-loop-i : goal.invariant-check_node-loop-i
invariant-check_node-loop-i l =
    Rest (view l.table) l.n (l.level - 1) l.w l.next (Some l.initial.state) (Some l.state) l.i
    × Marking (view l.table) (l.level - 1) l.w l.next l.initial.marks l.marks l.i
