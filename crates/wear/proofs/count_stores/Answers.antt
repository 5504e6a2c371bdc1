-- `wear::count_stores` meets its contract.
use Rattle.std.proofs.Common.{◌≡◌, length, replicate, refl, ◌∙◌, arith, rules}
use Rattle.model.specs.Orders.{decode}
use Rattle.model.specs.Wear.{stored_to}
use Rattle.wear.proofs.Turns.{below-as, below-here, below-next}
use Rattle.wear.proofs.Tallying.{tally-begins, tally-few, total-few, tally-next, tally-total, tally-lines}
use Rattle.wear.proofs.count_stores.Goals as goal

pub loop-pair-init : goal.loop-pair-init
loop-pair-init c = let zeros : c.fill.new.self ≡ replicate (length c.args.lines.now) 0 = search rules in let z =
    c.chunks_exact-pair-items.ensures in let same = c.into_iter-pair-iterator.ensures.into_iter_gives in record {
      pairs = search rules;
      room = refl;
      below = rw (same, z.rest) (below-as 8 _ _ (stored_to (decode c.args.list.now)) c.fill.auto.self c.requires);
      tally = rw (same, z.rest) (tally-begins _ (length c.args.lines.now) _ zeros);
    }

pub count_one-total-requires-clause-each : goal.count_one-total-requires-clause-each
count_one-total-requires-clause-each c = let l = c.loop-pair in let s = c.in-Some.ensures.steps in
    below-here _ _ _ s.1.0 (s.1.1 ∙ l.invariant.pairs) _ l.invariant.below _ (omega arith) _ c.from.ensures

pub count_one-total-requires-clause-by_index : goal.count_one-total-requires-clause-by_index
count_one-total-requires-clause-by_index c = λ k. omega (arith, tally-few _ _ _ _ c.loop-pair.invariant.tally k)

pub overflow_add-total : goal.overflow_add-total
overflow_add-total c = let l = c.loop-pair in let s = c.in-Some.ensures.steps in
    omega (
      arith,
      total-few _ _ _ _ l.invariant.tally _ _ s.1.0 (s.1.1 ∙ l.invariant.pairs) _ c.from.ensures _
          c.count_one-total.ensures.value,
    )

pub loop-pair-preserved : goal.loop-pair-preserved
loop-pair-preserved c = let l = c.loop-pair in let s = c.in-Some.ensures.steps in record {
  pairs = s.0 ∙ l.invariant.pairs;
  room = search rules;
  below = below-next _ _ _ s.1.0 (s.1.1 ∙ l.invariant.pairs) _ l.invariant.below;
  tally = tally-next _ _ _ _ l.invariant.tally _ _ s.1.0 (s.1.1 ∙ l.invariant.pairs) _ c.from.ensures _ c.count_one-total.ensures.value _
      c.count_one-total.ensures.by_index_2;
}

pub returns-clause-value : goal.returns-clause-value
returns-clause-value c = let l = c.loop-pair in tally-total _ _ _ _ l.invariant.tally (omega (arith, c.in-None.ensures.steps.1.0))

pub returns-clause-lines_after : goal.returns-clause-lines_after
returns-clause-lines_after c = let l = c.loop-pair in
    tally-lines _ _ _ _ l.invariant.tally (omega (arith, c.in-None.ensures.steps.1.0)) _ (omega (arith, l.invariant.room, c.fill.auto.self))
