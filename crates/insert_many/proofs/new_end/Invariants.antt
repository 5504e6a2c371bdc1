-- `insert_many::new_end` meets its contract. The loop keeps that the pairs that are asked for are there, and what the widths come to.
use Rattle.std.proofs.Common.{◌≡◌, ◌+◌, ◌-◌, ◌/◌, ◌≤◌, length}
use Rattle.model.specs.Table.{at, root_word}
use Rattle.model.specs.Slots.{view_from}
use Rattle.insert_many.specs.Going.{new_width}
use Rattle.insert_many.proofs.Widths.{Widths}
use Rattle.insert_many.proofs.new_end.Given as goal

abbrev pub invariant-loop-width : goal.invariant-loop-width
invariant-loop-width l = let all = length l.pairs / 2 - l.i in
    (l.root ≡ at l.table (root_word l.collection)) × (l.i + l.width ≤ length l.pairs / 2)
    × Widths (view_from l.table l.root) l.pairs l.i l.width (new_width (view_from l.table l.root) l.pairs l.i all all)

abbrev pub decreases-loop-width : goal.decreases-loop-width
decreases-loop-width l = l.width
