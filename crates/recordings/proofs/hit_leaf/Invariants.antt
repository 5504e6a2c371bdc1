-- `recordings::hit_leaf` meets its contract. The loop keeps what hitting the places of the slots from i on comes to.
use Rattle.std.proofs.Common.{◌≡◌, false, map}
use Rattle.model.specs.Slots.{recording}
use Rattle.slots.specs.Scan.{shown_from, kept_of}
use Rattle.recordings.specs.Marked.{kept_in}
use Rattle.recordings.specs.Rounds.{hits, hit_all, place_of, suspect}
use Rattle.recordings.proofs.hit_leaf.Given as goal

abbrev pub invariant-loop-i : goal.invariant-loop-i
invariant-loop-i l =
    hit_all (suspect l.round l.olds) (place_of l.round)
    (map recording (kept_of l.x.node.sibling l.x.bound (shown_from l.before l.x.node.slots l.i))) (hits l.once l.twice l.crowded)
    ≡ hit_all (suspect l.round l.olds) (place_of l.round) (map recording (kept_in l.x)) (hits l.initial.once l.initial.twice false)
