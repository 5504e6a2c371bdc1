-- `shift::Opened::close_gap` meets its contract. The loop's invariant: the moves from slot i + 1 on are left, and lead to what all of them
-- lead to.
use Rattle.std.proofs.Common.{rules, arith, ◌≡◌, length}
use Rattle.slots.proofs.Places.{in-use-short}
use Rattle.orders.proofs.Rest.{rest-start, rest-same, two-first, two-second, two-after, rest-one, rest-next, rest-none}
use Rattle.shift.proofs.Shifting.{gap-start, gap-next, gap-end}
use Rattle.shift.proofs.Opened.close_gap.Goals as goal

pub loop-i-init : goal.loop-i-init
loop-i-init c = record { left = rest-same (gap-start c.args.self.now _ c.last-last.ensures.value c.args.p) (rest-start c.requires) }

pub put-requires : goal.put-requires
put-requires c = let l = c.loop-i in two-first (gap-next c.args.self.now _ c.last-last.ensures.value l.i (omega arith)) l.invariant.left

pub put-requires-in-loop-i : goal.put-requires-in-loop-i
put-requires-in-loop-i c = let l =
    c.loop-i in two-second (gap-next c.args.self.now _ c.last-last.ensures.value l.i (omega arith)) l.invariant.left c.put.ensures

pub loop-i-preserved : goal.loop-i-preserved
loop-i-preserved c = let l = c.loop-i in
    record {
      left = two-after (gap-next c.args.self.now _ c.last-last.ensures.value l.i (omega arith)) l.invariant.left c.put.ensures
          c.put-in-loop-i.ensures;
    }

pub put-requires-2 : goal.put-requires-2
put-requires-2 c = let l =
    c.loop-i in rest-one (rest-same (gap-end c.args.self.now _ c.last-last.ensures.value l.i (omega arith)) l.invariant.left)

pub returns : goal.returns
returns c = let l = c.loop-i in rest-none
    (rest-next (rest-same (gap-end c.args.self.now _ c.last-last.ensures.value l.i (omega arith)) l.invariant.left) c.put-2.ensures)

pub bounds-self-i : goal.bounds-self-i
bounds-self-i c = let slots = c.args.self.now.node.slots in
    let whole : length slots ≡ 24 = search rules in
    omega (arith, c.last-last.ensures.value, in-use-short slots, whole)

pub bounds-self-i-in-loop-i : goal.bounds-self-i-in-loop-i
bounds-self-i-in-loop-i c = let slots = c.args.self.now.node.slots in
    let whole : length slots ≡ 24 = search rules in
    omega (arith, c.last-last.ensures.value, in-use-short slots, whole)
