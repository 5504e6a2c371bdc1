-- `wear::mark` meets its contract. The loop's invariant: the orders of the words left, marked now, leave what all of them leave.
use Rattle.std.proofs.Common.{◌∙◌, arith, rules}
use Rattle.wear.proofs.Turns.{below-here, below-next}
use Rattle.wear.proofs.Marking.{marking-next, marking-end}
use Rattle.wear.proofs.mark.Goals as goal

pub mark_one-requires : goal.mark_one-requires
mark_one-requires c = let l = c.loop-pair in let s = c.in-Some.ensures.steps in
    below-here _ _ _ s.1.0 (s.1.1 ∙ l.invariant.pairs) _ l.invariant.below _ (omega arith) _ c.from.ensures

pub loop-pair-preserved : goal.loop-pair-preserved
loop-pair-preserved c = let l = c.loop-pair in let s = c.in-Some.ensures.steps in record {
  pairs = s.0 ∙ l.invariant.pairs;
  room = search rules;
  below = below-next _ _ _ s.1.0 (s.1.1 ∙ l.invariant.pairs) _ l.invariant.below;
  marking = marking-next _ _ _ _ l.invariant.marking _ _ s.1.0 (s.1.1 ∙ l.invariant.pairs) _ c.from.ensures _ c.mark_one.ensures;
}

pub returns : goal.returns
returns c = let l = c.loop-pair in marking-end _ _ _ _ l.invariant.marking (omega (arith, c.in-None.ensures.steps.1.0))
