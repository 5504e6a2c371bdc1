-- `pack::child_slots` meets its contract.
use Rattle.std.proofs.Common.{◌≡◌, ◌*◌}
use lib.Seq.{sets}
use Rattle.model.specs.Slots.{slot_words}
use Rattle.pack.proofs.Filling.{child_rest}
use Rattle.pack.specs.Rows.{slotted, children_from}
use Rattle.pack.proofs.child_slots.Given as goal

abbrev pub invariant-loop-i : goal.invariant-loop-i
invariant-loop-i l =
    sets l.slots (2 * l.i) (slot_words (child_rest l.nodes l.first l.count l.i)) ≡ slotted (children_from l.nodes l.first l.count)
