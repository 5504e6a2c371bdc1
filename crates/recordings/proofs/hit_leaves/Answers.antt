-- `recordings::hit_leaves` meets its contract. The loop keeps what the nodes from n on come to.
use Rattle.std.proofs.Common.{◌+◌, false, List, map, ℕ, ap, sym, ◌∙◌, arith}
use Rattle.model.specs.Table.{Words}
use Rattle.model.specs.Slots.{Slot, recording}
use Rattle.recordings.specs.Rounds.{Hits, hits, hit_all, place_of, suspect}
use Rattle.recordings.proofs.RowLaws.{row-marked, row-end, row-more, row-skip, few-marked, hit-none, hit-next}
use Rattle.recordings.proofs.LeafLaws.{none-own}
use Rattle.recordings.proofs.RoundLaws.{all-joined}
use Rattle.recordings.proofs.hit_leaves.Goals as goal

-- what slots come to, from the places hit so far
abbrev comes : (round : ℕ) (olds : Words) → Hits → List Slot → Hits
comes round olds h ss = hit_all (suspect round olds) (place_of round) (map recording ss) h

pub loop-n-init : goal.loop-n-init
loop-n-init c = let a = c.args in row-marked (comes a.round a.olds.now (hits a.once.now a.twice.now false)) _ _ _ c.last_marked-last.ensures

pub is_leaf-requires : goal.is_leaf-requires
is_leaf-requires c = few-marked _ _ _ _ c.requires c.last_marked-last.ensures (omega arith)

pub read_leaf-x-requires : goal.read_leaf-x-requires
read_leaf-x-requires c = sym c.is_leaf.ensures ∙ c.if-not-is_leaf.false

pub loop-n-preserved-then-not-is_leaf : goal.loop-n-preserved-then-not-is_leaf
loop-n-preserved-then-not-is_leaf c = let a = c.args in let l = c.loop-n in
    row-skip (comes a.round a.olds.now (hits l.once l.twice l.crowded)) _ _ l.n _ l.invariant (omega arith)
    (none-own _ _ _ _ c.is_leaf.ensures c.if-not-is_leaf.true)

pub loop-n-preserved : goal.loop-n-preserved
loop-n-preserved c = let a = c.args in let l = c.loop-n in
    let h = hits l.once l.twice l.crowded in
    row-more (comes a.round a.olds.now h) _ _ l.n _ l.invariant (omega arith)
    (hit-next _ _ _ _ h _
    (all-joined _ _ l.once l.twice l.crowded _ _ _ _ c.hit_leaf-crowded.ensures
    ∙ ap (comes a.round a.olds.now h) c.read_leaf-x.ensures))

-- the last node
pub returns-then-not-is_leaf : goal.returns-then-not-is_leaf
returns-then-not-is_leaf c = let a = c.args in let l = c.loop-n in
    let F = comes a.round a.olds.now (hits l.once l.twice l.crowded) in
    hit-none _ _ _ ∙ row-end F _ _ (l.n + 1) _
    (row-skip F _ _ l.n _ l.invariant (omega arith) (none-own _ _ _ _ c.is_leaf.ensures c.if-not-is_leaf.true)) (omega arith)

pub returns-else-not-is_leaf : goal.returns-else-not-is_leaf
returns-else-not-is_leaf c = let a = c.args in let l = c.loop-n in
    let h = hits l.once l.twice l.crowded in
    let F = comes a.round a.olds.now h in
    let e = all-joined _ _ l.once l.twice l.crowded _ _ _ _ c.hit_leaf-crowded.ensures ∙ ap F c.read_leaf-x.ensures in
    hit-none _ _ _ ∙ row-end (comes a.round a.olds.now (hits _ _ _)) _ _ (l.n + 1) _
    (row-more F _ _ l.n _ l.invariant (omega arith) (hit-next _ _ _ _ h _ e)) (omega arith)

pub returns : goal.returns
returns c = let a = c.args in let l = c.loop-n in
    hit-none _ _ _ ∙ row-end (comes a.round a.olds.now (hits l.once l.twice l.crowded)) _ _ l.n _ l.invariant (omega arith)
