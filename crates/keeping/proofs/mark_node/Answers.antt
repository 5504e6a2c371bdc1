-- `keeping::mark_node` meets its contract.
use Rattle.std.proofs.Common.{◌≡◌, cond, ◌∙◌}
use Rattle.keeping.proofs.Marks.{marked-one}
use Rattle.keeping.proofs.Nodes.{looking-start, looking-step, looking-stop, looking-end, looking-none}
use Rattle.keeping.proofs.mark_node.Goals as goal

pub returns-then-x-ne0 : goal.returns-then-x-ne0
returns-then-x-ne0 c = let a = c.args in let r =
    c.read-x in looking-none a.entered.table.now a.entered.order.now a.j r.result r.ensures a.marks.now c.if-x-ne0.true

pub loop-i-init : goal.loop-i-init
loop-i-init c = let a = c.args in
    let r = c.read-x in
    (r.ensures, looking-start a.entered.table.now a.entered.order.now a.j r.result r.ensures a.marks.now c.if-x-ne0.false)

pub returns-then-pointer-eq0 : goal.returns-then-pointer-eq0
returns-then-pointer-eq0 c = let l = c.loop-i.invariant in looking-stop _ _ _ _ l.0 _ _ _ _ _ l.1 c.loop-i-test.true c.if-pointer-eq0.true

pub loop-i-preserved : goal.loop-i-preserved
loop-i-preserved c = let l = c.loop-i.invariant in
    let m = c.mark_slot-marked in
    let e : c.from-kept.result ≡ cond m.result 1 0 = c.from-kept.ensures ∙ marked-one m.result in
    (l.0, looking-step _ _ _ _ l.0 _ _ _ _ _ l.1 c.loop-i-test.true c.if-pointer-eq0.false _ _ (rw e m.ensures))

pub returns : goal.returns
returns c = let l = c.loop-i.invariant in looking-end _ _ _ _ l.0 _ _ _ _ _ l.1 c.loop-i-test.false
