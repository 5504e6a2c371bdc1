-- `listing::list_from` meets its contract. The loop keeps what taking the pairs of the leaves ahead comes to.
use Rattle.std.proofs.Common.{ap, ◌∙◌}
use mathlib.Core.Bool.{false≢true}
use Rattle.leaves.specs.Siblings.{siblings_left}
use Rattle.listing.specs.Taking.{begun}
use Rattle.listing.proofs.Pairs.{spent-after}
use Rattle.listing.proofs.Leaves.{ahead-first, ahead-end, ahead-left, ahead-past, ahead-next}
use Rattle.listing.proofs.list_from.Goals as goal

pub loop-leaf-init : goal.loop-leaf-init
loop-leaf-init c = (
  λ e. absurd (false≢true e),
  ahead-first _ _ _ _ _ _ (begun c.args.out.now) c.word_at.ensures
      (ap siblings_left c.into_iter-leaf-iterator.ensures.into_iter_gives ∙ c.new-leaf-items.ensures),
)

pub returns-then-p : goal.returns-then-p
returns-then-p c = let l = c.loop-leaf in ahead-left _ _ _ _ _ _ l.invariant.1 l.invariant.0 c.if-p.true

pub returns-then-high-x : goal.returns-then-high-x
returns-then-high-x c = ahead-past _ _ _ _ _ _ _ _ _ c.read-x.ensures c.in-Some.ensures.steps c.loop-leaf.invariant.1 c.if-high-x.true

pub loop-leaf-preserved : goal.loop-leaf-preserved
loop-leaf-preserved c = (
  spent-after _ _ _ c.loop-leaf.invariant.0 c.list_leaf-p.ensures,
  ahead-next _ _ _ _ _ _ _ _ _ c.read-x.ensures c.in-Some.ensures.steps c.loop-leaf.invariant.1 _ _ c.if-high-x.false
      c.word.ensures c.list_leaf-p.ensures,
)

pub returns : goal.returns
returns c = ahead-end _ _ _ _ _ _ c.loop-leaf.invariant.1 c.in-None.ensures.steps.0
