-- `slots::scan` meets its contract. The loop keeps that the slots from i on say, after what was seen so far, what all of them do.
use Rattle.std.proofs.Common.{arith, ap, sym, List, ◌∙◌}
use Rattle.model.specs.Slots.{Slot, shown}
use Rattle.slots.specs.declared.Seen.{Seen}
use Rattle.slots.proofs.Scans.{scan-past, scan-stop, scan-more}
use Rattle.slots.proofs.Kept.{seen_after, seen-none, seen-more}
use Rattle.slots.proofs.scan.Goals as goal

pub returns-then-p-eq0 : goal.returns-then-p-eq0
returns-then-p-eq0 c = let l = c.loop-i in
    let e =
    sym (seen-none _ l.way l.held l.before)
    ∙ scan-stop (λ (ss : List Slot). seen_after c.args.key l.way l.held (shown l.before ss)) _ l.i l.invariant
    (omega arith) c.if-p-eq0.true in
    record { way_value = ap (λ (s : Seen). s.way) e; held_value = ap (λ (s : Seen). s.held) e }

pub loop-i-preserved : goal.loop-i-preserved
loop-i-preserved c = let l = c.loop-i in
    scan-more (λ (ss : List Slot). seen_after c.args.key l.way l.held (shown l.before ss)) _ l.i l.invariant (omega arith) c.if-p-eq0.false
    (seen-more _ _ _ _ _ _ _ _ _ c.if-p-eq0.false c.way_after-way.ensures c.held_after-held.ensures)

pub returns : goal.returns
returns c = let l = c.loop-i in
    let e =
    sym (seen-none _ l.way l.held l.before)
    ∙ scan-past (λ (ss : List Slot). seen_after c.args.key l.way l.held (shown l.before ss)) _ l.i l.invariant (omega arith) in
    record { way_value = ap (λ (s : Seen). s.way) e; held_value = ap (λ (s : Seen). s.held) e }
