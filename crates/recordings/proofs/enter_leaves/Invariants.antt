-- `recordings::enter_leaves` meets its contract. The loop keeps what the nodes from n on come to.
use Rattle.std.proofs.Common.{◌≡◌, ◌+◌, ◌-◌, map}
use Rattle.model.specs.Slots.{recording, view}
use Rattle.numbers.specs.Cells.{entered_all}
use Rattle.recordings.specs.Marked.{own_from, marked_pairs}
use Rattle.recordings.specs.Rounds.{suspect}
use Rattle.recordings.proofs.enter_leaves.Given as goal

abbrev pub invariant-loop-n : goal.invariant-loop-n
invariant-loop-n l =
    entered_all (suspect l.round l.twice) (map recording (own_from (view l.table) l.marks l.n (l.last + 1 - l.n))) l.cells
    ≡ entered_all (suspect l.round l.twice) (map recording (marked_pairs (view l.table) l.marks)) l.initial.cells
