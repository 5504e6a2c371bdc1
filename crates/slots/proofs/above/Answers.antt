-- `slots::above` meets its contract: each turn looks at one slot more.
use Rattle.std.proofs.Common.{sym, ◌∙◌, arith}
use Rattle.model.specs.Slots.{shown}
use Rattle.model.specs.Search.{first_above}
use Rattle.slots.specs.Scan.{kept_of}
use Rattle.slots.proofs.Scans.{scan-past, scan-stop, scan-more}
use Rattle.slots.proofs.Kept.{above-none, above-found, above-low, above-no-way}
use Rattle.slots.proofs.above.Goals.{then-is_way+else-key-k, else-is_way}
use Rattle.slots.proofs.above.Goals as goal

pub returns-then-p-eq0 : goal.returns-then-p-eq0
returns-then-p-eq0 c =
    let a = c.args in
    sym (above-none _ _ _ c.loop-i.before)
    ∙ scan-stop (λ ss. first_above a.key (kept_of a.sibling a.bound (shown c.loop-i.before ss))) _ c.loop-i.i c.loop-i.invariant
    (omega arith) c.if-p-eq0.true

pub returns-then-key-k : goal.returns-then-key-k
returns-then-key-k c =
    let a = c.args in
    scan-more (λ ss. first_above a.key (kept_of a.sibling a.bound (shown c.loop-i.before ss))) _ c.loop-i.i c.loop-i.invariant
    (omega arith) c.if-p-eq0.false
    (above-found _ _ _ _ _ _ _ _ c.is_way.ensures c.if-is_way.true c.if-key-k.true)

pub loop-i-preserved : goal.loop-i-preserved
loop-i-preserved c =
    let a = c.args in
    let q = c.is_way.ensures in
    scan-more (λ ss. first_above a.key (kept_of a.sibling a.bound (shown c.loop-i.before ss))) _ c.loop-i.i c.loop-i.invariant
    (omega arith) c.if-p-eq0.false
    (elim c.if-is_way.branch [
      | then-is_way+else-key-k w ↦ above-low _ _ _ _ _ _ _ _ q w.if-is_way.true w.if-key-k.false
      | else-is_way w ↦ above-no-way _ _ _ _ _ _ _ _ q w.if-is_way.false
    ])

pub returns : goal.returns
returns c =
    let a = c.args in
    sym (above-none _ _ _ c.loop-i.before)
    ∙ scan-past (λ ss. first_above a.key (kept_of a.sibling a.bound (shown c.loop-i.before ss))) _ c.loop-i.i
    c.loop-i.invariant (omega arith)
