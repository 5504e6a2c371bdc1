-- `carry::apply_all` meets its contract.
use Rattle.std.proofs.Common.{◌∙◌, rules, arith}
use Rattle.carry.proofs.Turns.{inside-here, inside-next, carry-next, carry-end}
use Rattle.carry.proofs.apply_all.Goals as goal

pub apply_one-requires : goal.apply_one-requires
apply_one-requires c = let l = c.loop-pair in let s = c.in-Some.ensures.steps in
    inside-here _ _ _ s.1.0 (s.1.1 ∙ l.invariant.pairs) _ l.invariant.inside _ l.invariant.room _ c.from.ensures

pub loop-pair-preserved : goal.loop-pair-preserved
loop-pair-preserved c = let l = c.loop-pair in let s = c.in-Some.ensures.steps in let two = s.1.1 ∙ l.invariant.pairs in record {
  pairs = s.0 ∙ l.invariant.pairs;
  room = search rules;
  inside = inside-next _ _ _ s.1.0 two _ l.invariant.inside;
  carried = carry-next _ _ _ s.1.0 two _ _ l.invariant.carried _ c.from.ensures _ c.apply_one.ensures;
}

pub returns : goal.returns
returns c = let l = c.loop-pair in carry-end _ _ _ l.invariant.carried (omega (arith, c.in-None.ensures.steps.1.0))
