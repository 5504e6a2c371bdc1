-- `wear::worst` meets its contract. The loop keeps the most of the lines after those that are left.
use Rattle.std.proofs.Common.{arith, refl, ◌∙◌}
use Rattle.wear.proofs.Tallying.{most-none, most-next, most-all}
use Rattle.wear.proofs.worst.Goals as goal

pub loop-i-init : goal.loop-i-init
loop-i-init c = let e = c.into_iter-i-iterator.ensures.into_iter_gives in let z = c.enumerate.ensures in
    rw (e, c.rev-i-items.ensures.source, z.source, z.count, c.iter.ensures.rest) (refl, most-none _)

pub loop-i-preserved : goal.loop-i-preserved
loop-i-preserved c = let l = c.loop-i.invariant in let s = c.in-Some.ensures.steps in
    (s.0 ∙ l.0, most-next _ _ _ l.1 _ _ s.1.0 _ (omega (arith, s.1.1, l.0)) _ c.or_here-m.ensures)

pub returns-clause-largest_value : goal.returns-clause-largest_value
returns-clause-largest_value c = (most-all _ _ _ c.in-None.ensures.steps.1.0 c.loop-i.invariant.1).0

pub returns-clause-first_value : goal.returns-clause-first_value
returns-clause-first_value c = (most-all _ _ _ c.in-None.ensures.steps.1.0 c.loop-i.invariant.1).1
