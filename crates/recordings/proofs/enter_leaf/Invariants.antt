-- `recordings::enter_leaf` meets its contract. The loop keeps what entering the slots from i on comes to.
use Rattle.std.proofs.Common.{◌≡◌, map}
use Rattle.model.specs.Slots.{recording}
use Rattle.numbers.specs.Cells.{entered_all}
use Rattle.slots.specs.Scan.{shown_from, kept_of}
use Rattle.recordings.specs.Marked.{kept_in}
use Rattle.recordings.specs.Rounds.{suspect}
use Rattle.recordings.proofs.enter_leaf.Given as goal

abbrev pub invariant-loop-i : goal.invariant-loop-i
invariant-loop-i l =
    entered_all (suspect l.round l.twice)
    (map recording (kept_of l.x.node.sibling l.x.bound (shown_from l.before l.x.node.slots l.i))) l.cells
    ≡ entered_all (suspect l.round l.twice) (map recording (kept_in l.x)) l.initial.cells
