-- `recordings::hit_leaves` meets its contract. The loop keeps what the nodes from n on come to.
use Rattle.std.proofs.Common.{◌≡◌, false, ◌+◌, ◌-◌, map}
use Rattle.model.specs.Slots.{recording, view}
use Rattle.recordings.specs.Marked.{own_from, marked_pairs}
use Rattle.recordings.specs.Rounds.{hits, hit_all, place_of, suspect}
use Rattle.recordings.proofs.hit_leaves.Given as goal

abbrev pub invariant-loop-n : goal.invariant-loop-n
invariant-loop-n l =
    hit_all (suspect l.round l.olds) (place_of l.round) (map recording (own_from (view l.table) l.marks l.n (l.last + 1 - l.n)))
    (hits l.once l.twice l.crowded)
    ≡ hit_all (suspect l.round l.olds) (place_of l.round) (map recording (marked_pairs (view l.table) l.marks))
    (hits l.initial.once l.initial.twice false)
