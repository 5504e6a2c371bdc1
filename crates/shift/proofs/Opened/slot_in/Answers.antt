-- `shift::Opened::slot_in` meets its contract. The loop's invariant: the moves below slot i are left, and lead to what the whole shift
-- leads to.
use Rattle.std.proofs.Common.{arith}
use Rattle.orders.proofs.Rest.{rest-start, rest-same, rest-one, rest-next, rest-none, two-first, two-second, two-after}
use Rattle.shift.proofs.Shifting.{in-start, in-next, in-end}
use Rattle.shift.proofs.Opened.slot_in.Goals as goal

pub put-requires : goal.put-requires
put-requires c = let a =
    c.args in rest-one (rest-same (in-start a.self.now a.k a.x _ _ c.place-at.ensures c.count-end.ensures.value)
    (rest-start {w = c.args.writer.now} c.requires))

pub loop-i-init : goal.loop-i-init
loop-i-init c = let a = c.args in
    record {
      used = omega (arith, c.count-end.ensures.value);
      left = rest-next (rest-same (in-start a.self.now a.k a.x _ _ c.place-at.ensures c.count-end.ensures.value)
          (rest-start {w = c.args.writer.now} c.requires)) c.put.ensures;
    }

pub put-requires-in-loop-i : goal.put-requires-in-loop-i
put-requires-in-loop-i c = let l =
    c.loop-i in two-first (in-next c.args.self.now c.args.k c.args.x c.place-at.result l.i (omega arith) l.invariant.used) l.invariant.left

pub put-requires-in-loop-i-2 : goal.put-requires-in-loop-i-2
put-requires-in-loop-i-2 c = let l =
    c.loop-i in two-second (in-next c.args.self.now c.args.k c.args.x c.place-at.result l.i (omega arith) l.invariant.used)
    l.invariant.left c.put-in-loop-i.ensures

pub loop-i-preserved : goal.loop-i-preserved
loop-i-preserved c = let l = c.loop-i in
    record {
      used = omega (arith, l.invariant.used);
      left = two-after (in-next c.args.self.now c.args.k c.args.x c.place-at.result l.i (omega arith) l.invariant.used) l.invariant.left
          c.put-in-loop-i.ensures c.put-in-loop-i-2.ensures;
    }

pub put-requires-2 : goal.put-requires-2
put-requires-2 c = let l = c.loop-i in let a =
    c.args in rest-one (rest-same (in-end a.self.now a.k a.x c.place-at.result l.i (omega arith)) l.invariant.left)

pub put-requires-3 : goal.put-requires-3
put-requires-3 c = let l = c.loop-i in let a =
    c.args in rest-one (rest-next
    (rest-same (in-end a.self.now a.k a.x c.place-at.result l.i (omega arith)) l.invariant.left) c.put-2.ensures)

pub put-requires-4 : goal.put-requires-4
put-requires-4 c = let l = c.loop-i in let a =
    c.args in rest-one (rest-next
    (rest-next (rest-same (in-end a.self.now a.k a.x c.place-at.result l.i (omega arith)) l.invariant.left) c.put-2.ensures)
    c.put-3.ensures)

pub returns : goal.returns
returns c = let l = c.loop-i in let a = c.args in
    rest-none (rest-next
    (rest-next (rest-next (rest-same (in-end a.self.now a.k a.x c.place-at.result l.i (omega arith)) l.invariant.left) c.put-2.ensures)
    c.put-3.ensures) c.put-4.ensures)

pub bounds-self-i : goal.bounds-self-i
bounds-self-i c = omega (arith, c.count-end.ensures, c.loop-i.invariant.used)

pub bounds-self-i-in-loop-i : goal.bounds-self-i-in-loop-i
bounds-self-i-in-loop-i c = omega (arith, c.count-end.ensures, c.loop-i.invariant.used)
