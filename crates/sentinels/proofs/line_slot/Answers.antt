-- `sentinels::line_slot` meets its contract. The loop keeps that the line's slots from i on tell what all of them do.
use Rattle.std.proofs.Common.{◌+◌, ◌*◌, sym, ap, ◌∙◌, arith}
use Rattle.sentinels.specs.Lines.{first_taken}
use Rattle.sentinels.proofs.Reading.{line-shut, line-start, line-end, line-stop, line-shows, line-hides, taken-nil, taken-here, taken-later}
use Rattle.sentinels.proofs.line_slot.Goals as goal
use Rattle.sentinels.proofs.line_slot.Goals.{else-p-before-via-then-p-before+else-takes, else-p-before-via-else-p-before}

pub returns-in_err-before : goal.returns-in_err-before
returns-in_err-before g c p h =
    c.from_residual.ensures
    ∙ sym (ap (first_taken p) (line-shut c.args.node.now c.args.first (sym c.begin.ensures ∙ c.in_err-before.was)) ∙ taken-nil p)

pub loop-i-init : goal.loop-i-init
loop-i-init g c p h = ap (first_taken p) (line-start c.args.node.now c.args.first _ (sym c.begin.ensures ∙ c.in_ok-before.was))

pub returns-then-p-eq0 : goal.returns-then-p-eq0
returns-then-p-eq0 g c p h = let a = c.args in
    sym (taken-nil p) ∙ line-stop (first_taken p) a.node.now _ (a.first + 4) c.loop-i.i _ (c.loop-i.invariant p h) c.told-node (omega arith)
    (omega arith) c.if-p-eq0.true

pub returns-then-takes : goal.returns-then-takes
returns-then-takes g c p h = let a = c.args in
    line-shows (first_taken p) a.node.now _ (a.first + 4) c.loop-i.i _ (c.loop-i.invariant p h) c.told-node (omega arith) (omega arith)
    c.if-p-eq0.false c.if-p-before.true
    (taken-here p _ _ (sym (h _ _ (c.fits-node (2 * c.loop-i.i + 8)) c.takes.ensures) ∙ c.if-takes.true))

pub loop-i-preserved : goal.loop-i-preserved
loop-i-preserved g c p h = let a = c.args in
    elim c.else-p-before.branch [
      | else-p-before-via-then-p-before+else-takes d ↦
          line-shows (first_taken p) a.node.now _ (a.first + 4) c.loop-i.i _ (c.loop-i.invariant p h) c.told-node
          (omega arith) (omega arith)
          c.if-p-eq0.false d.if-p-before.true
          (taken-later p _ _ (sym (h _ _ (c.fits-node (2 * c.loop-i.i + 8)) d.takes.ensures) ∙ d.if-takes.false))
      | else-p-before-via-else-p-before d ↦
          line-hides (first_taken p) a.node.now _ (a.first + 4) c.loop-i.i _ (c.loop-i.invariant p h) c.told-node
          (omega arith) (omega arith)
          c.if-p-eq0.false d.if-p-before.false
    ]

pub returns : goal.returns
returns g c p h = let a =
    c.args in sym (taken-nil p) ∙ line-end (first_taken p) a.node.now _ (a.first + 4) c.loop-i.i _ (c.loop-i.invariant p h) (omega arith)
