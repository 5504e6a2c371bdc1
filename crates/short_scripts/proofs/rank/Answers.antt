-- `short_scripts::rank` meets its contract.
use Rattle.std.proofs.Common.{◌<◌, ◌≤◌, get_or, sym, ◌∙◌, arith}
use Rattle.short_scripts.proofs.Words.{within-both, rank-next, rank-none, rank-below, rank-small, form-says}
use Rattle.short_scripts.proofs.rank.Goals.{In-loop-action}
use Rattle.short_scripts.proofs.rank.Goals as goal

pub actions_in-actions-requires : goal.actions_in-actions-requires
actions_in-actions-requires c = (form-says c.args.words c.requires).0

-- one action more, of the six
fits : (c : In-loop-action) → (c.loop-action.n < 1555) × (get_or c.actions_in-actions.result.now c.loop-action.action-index 0 ≤ 5)
fits c = let i = c.loop-action.invariant in (
  rank-small c.loop-action.action-index c.loop-action.n (omega (arith, i.few)) i.small,
  (within-both 5 _ c.loop-action.action-index (omega arith) i.six).0,
)

pub overflow_add-n : goal.overflow_add-n
overflow_add-n c = omega (arith, fits (goal.at.overflow_add-n c).In-loop-action)

pub overflow_add-n-in-loop-action : goal.overflow_add-n-in-loop-action
overflow_add-n-in-loop-action c = omega (arith, fits (goal.at.overflow_add-n-in-loop-action c).In-loop-action)

pub loop-action-init : goal.loop-action-init
loop-action-init c = let f = form-says c.args.words c.requires in
    let e = c.actions_in-actions.ensures in record { few = rw e f.1; small = omega arith; six = rw e f.2; same = rw e }

pub overflow_mul-n : goal.overflow_mul-n
overflow_mul-n c = omega (arith, fits (goal.at.overflow_mul-n c).In-loop-action)

pub loop-action-preserved : goal.loop-action-preserved
loop-action-preserved c = let l = c.loop-action in let i = l.invariant in
    let s = within-both 5 _ l.action-index (omega arith) i.six in record {
      few = i.few;
      small = rank-below l.action-index l.n _ i.small s.0;
      six = s.1;
      same = sym (rank-next _ l.action-index l.n (omega arith)) ∙ i.same;
    }

pub returns : goal.returns
returns c = let l = c.loop-action in sym (rank-none _ l.action-index l.n (omega arith)) ∙ l.invariant.same
