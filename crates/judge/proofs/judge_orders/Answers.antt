-- `judge::judge_orders` meets its contract. The loop keeps that the orders so far held, and what is left comes to the answer.
use Rattle.std.proofs.Common.{ℕ, ◌+◌, ap, ◌∙◌, arith}
use Rattle.std.specs.Prelude.{Ok, Some}
use Rattle.model.specs.Reached.{maps_of}
use Rattle.judge_laws.proofs.Judged.{good-maps}
use Rattle.judge.specs.Wanted.{wanted}
use Rattle.judge.proofs.Rest.{good-collection}
use Rattle.judge.proofs.Going.{going-start, going-inside, going-fails, going-failed, going-next, going-ends, going-ended}
use Rattle.judge.proofs.judge_orders.Goals as goal

pub loop-i-init : goal.loop-i-init
loop-i-init c = let e = c.into_iter-i-iterator.ensures.into_iter_gives in let z = c.enumerate-i-items.ensures in record {
  pairs = rw (e, z.source) c.chunks_exact.ensures.size;
  going = rw (e, z.count, z.source)
      (going-start _ _ _ _ _ c.args.plan.now.suits c.requires.image_value c.requires.list_value c.chunks_exact.ensures.rest);
}

pub turn-requires-clause-order_value : goal.turn-requires-clause-order_value
turn-requires-clause-order_value c = let l = c.loop-i.invariant in let s = c.in-Some.ensures.steps in
    going-inside l.going _ _ s.0.1.0 (s.0.1.1 ∙ l.pairs) _ c.from-order.ensures

pub turn-requires-clause-image_value : goal.turn-requires-clause-image_value
turn-requires-clause-image_value c = c.loop-i.invariant.going.good

pub returns-in_default-clause-value : goal.returns-in_default-clause-value
returns-in_default-clause-value c = let l = c.loop-i.invariant in let s = c.in-Some.ensures.steps in
    ap (λ (n : ℕ). Ok (Some (n + 1))) s.1
    ∙ going-fails l.going _ _ s.0.1.0 (s.0.1.1 ∙ l.pairs) _ c.from-order.ensures _ c.turn.ensures.image_after _
    c.turn.ensures.holds c.in_default.is

pub returns-in_default-clause-image_after : goal.returns-in_default-clause-image_after
returns-in_default-clause-image_after c = let l = c.loop-i.invariant in let s = c.in-Some.ensures.steps in
    rw s.1 (going-failed l.going _ _ s.0.1.0 (s.0.1.1 ∙ l.pairs) _ c.from-order.ensures _ c.turn.ensures.image_after _ c.turn.ensures.holds)

pub loop-i-preserved : goal.loop-i-preserved
loop-i-preserved c = let l = c.loop-i.invariant in let s = c.in-Some.ensures.steps in record {
  pairs = s.0.0 ∙ l.pairs;
  going = rw s.2 (going-next l.going _ _ s.0.1.0 (s.0.1.1 ∙ l.pairs) _ c.from-order.ensures _ c.turn.ensures.image_after _
      c.turn.ensures.holds _ c.in-Some-turn.is);
}

pub finish-requires-clause-image_value : goal.finish-requires-clause-image_value
finish-requires-clause-image_value c = let p = c.args.plan.now in
    ((good-maps (maps_of p.table.now) (wanted p.change p.table.now) _).0 c.loop-i.invariant.going.good).0

pub finish-requires-clause-image_value_2 : goal.finish-requires-clause-image_value_2
finish-requires-clause-image_value_2 c = let p =
    c.args.plan.now in good-collection p.change p.table.now p.suits _ c.loop-i.invariant.going.good

pub returns-clause-value : goal.returns-clause-value
returns-clause-value c = let p = c.args.plan.now in let l = c.loop-i.invariant in
    going-ends p.change p.table.now c.args.list.now _ _ _ _ p.suits l.going
    (omega (arith, c.in-None.ensures.steps.0.1.0, l.pairs)) _ c.finish.ensures

pub returns-clause-image_after : goal.returns-clause-image_after
returns-clause-image_after c = let p = c.args.plan.now in let l = c.loop-i.invariant in
    going-ended p.change p.table.now c.args.list.now _ _ _ _ p.suits l.going
    (omega (arith, c.in-None.ensures.steps.0.1.0, l.pairs)) _ c.finish.ensures
