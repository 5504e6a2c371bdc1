-- `listing::list_leaf` meets its contract. The loop keeps what taking the slots from i on, from the present state, comes to.
use Rattle.std.proofs.Common.{arith, sym, List, ◌∙◌}
use Rattle.model.specs.Slots.{Slot, shown}
use Rattle.slots.proofs.Scans.{scan-past, scan-stop, scan-more}
use Rattle.listing.specs.Taking.{sheet, all_taken, wanted}
use Rattle.listing.proofs.Steps.{slots-none, slots-more}
use Rattle.listing.proofs.list_leaf.Goals as goal

pub returns-then-pointer-eq0 : goal.returns-then-pointer-eq0
returns-then-pointer-eq0 c = let l = c.loop-i in
    sym (slots-none _ l.before _)
    ∙ scan-stop (λ (ss : List Slot). all_taken (wanted c.args.w (shown l.before ss)) (sheet l.out l.p)) _ l.i l.invariant
    (omega arith) c.if-pointer-eq0.true

pub loop-i-preserved : goal.loop-i-preserved
loop-i-preserved c = let l = c.loop-i in
    scan-more (λ (ss : List Slot). all_taken (wanted c.args.w (shown l.before ss)) (sheet l.out l.p)) _ l.i l.invariant
    (omega arith) c.if-pointer-eq0.false
    (slots-more _ _ _ _ _ _ _ c.take_slot-p.ensures)

pub returns : goal.returns
returns c = let l = c.loop-i in
    sym (slots-none _ l.before _)
    ∙ scan-past (λ (ss : List Slot). all_taken (wanted c.args.w (shown l.before ss)) (sheet l.out l.p)) _ l.i l.invariant (omega arith)
