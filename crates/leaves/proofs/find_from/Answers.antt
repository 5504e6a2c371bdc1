-- `leaves::find_from` meets its contract. Both loops keep what looking on, from the present leaf and way, comes to, and that nothing is
-- found yet.
use Rattle.std.proofs.Common.{arith, sym, ◌∙◌}
use Rattle.leaves.proofs.HitLaws.{hit-no-more, hit-enter, hit-here, hit-next, hit-leave}
use Rattle.leaves.proofs.find_from.Goals as goal

pub loop-i-init : goal.loop-i-init
loop-i-init c = (c.leaves.invariant.0, hit-enter c.leaves.invariant.1 _ _ c.ways_of-w.result c.in-Some.ensures.steps c.ways_of-w.ensures)

pub returns-then-recording : goal.returns-then-recording
returns-then-recording c = hit-here c.loop-i.invariant.1 c.loop-i-test.true (sym c.recording.ensures ∙ c.if-recording.true)

pub loop-i-preserved : goal.loop-i-preserved
loop-i-preserved c = (
  c.loop-i.invariant.0,
  hit-next c.loop-i.invariant.1 (omega arith) c.loop-i-test.true (λ e. c.if-recording.false (c.recording.ensures ∙ e)),
)

pub leaves-preserved : goal.leaves-preserved
leaves-preserved c = (c.loop-i.invariant.0, hit-leave c.loop-i.invariant.1 (omega arith))

pub returns-in-None : goal.returns-in-None
returns-in-None c = c.leaves.invariant.0 ∙ hit-no-more c.leaves.invariant.1 c.in-None.ensures.steps.0
