-- `recordings::hit_leaf` meets its contract. The loop keeps what hitting the places of the slots from i on comes to.
use Rattle.std.proofs.Common.{List, map, ℕ, ◌∙◌, arith}
use Rattle.model.specs.Table.{Words}
use Rattle.model.specs.Slots.{Slot, recording, shown}
use Rattle.slots.specs.Scan.{kept_of}
use Rattle.slots.proofs.Scans.{scan-past, scan-stop, scan-more}
use Rattle.recordings.specs.declared.Leaf.{Leaf}
use Rattle.recordings.specs.Rounds.{Hits, hits, hit_all, place_of, suspect}
use Rattle.recordings.proofs.LeafLaws.{slot-passed, hit-none, hit-more}
use Rattle.recordings.proofs.RoundLaws.{if-joined}
use Rattle.recordings.proofs.hit_leaf.Goals as goal
use Rattle.recordings.proofs.hit_leaf.Goals.{then-is_way, else-is_way}

-- what slots come to, with this pointer before them, from the places hit so far
abbrev comes : (round : ℕ) (olds : Words) → Leaf → (before : ℕ) → Hits → List Slot → Hits
comes round olds x before h ss =
    hit_all (suspect round olds) (place_of round) (map recording (kept_of x.node.sibling x.bound (shown before ss))) h

pub returns-then-p-eq0 : goal.returns-then-p-eq0
returns-then-p-eq0 c = let a = c.args in let l = c.loop-i in
    hit-none _ _ _ _ _ _
    ∙ scan-stop (comes a.round a.olds.now a.x l.before (hits l.once l.twice l.crowded)) _ l.i l.invariant (omega arith) c.if-p-eq0.true

pub loop-i-preserved : goal.loop-i-preserved
loop-i-preserved c = let a = c.args in let l = c.loop-i in
    let h = hits l.once l.twice l.crowded in
    let F = comes a.round a.olds.now a.x l.before h in
    elim c.if-is_way.branch [
      | then-is_way w ↦ scan-more F _ l.i l.invariant (omega arith) c.if-p-eq0.false
          (rw (w.once-is, w.twice-is, w.crowded-is)
          (hit-more _ _ _ _ _ _ _ c.is_way.ensures w.if-is_way.true _ _ _ _ _ w.recording.ensures
          (if-joined _ _ l.once l.twice l.crowded _ _ _ _ w.hit_number-crowded.ensures)))
      | else-is_way w ↦ scan-more F _ l.i l.invariant (omega arith) c.if-p-eq0.false
          (rw (w.once-is, w.twice-is, w.crowded-is)
          (slot-passed _ _ _ _ _ _ _ c.is_way.ensures
          (λ (ss : List Slot). hit_all (suspect a.round a.olds.now) (place_of a.round) (map recording ss) h) w.if-is_way.false))
    ]

pub returns : goal.returns
returns c = let a = c.args in let l = c.loop-i in
    hit-none _ _ _ _ _ _
    ∙ scan-past (comes a.round a.olds.now a.x l.before (hits l.once l.twice l.crowded)) _ l.i l.invariant (omega arith)
