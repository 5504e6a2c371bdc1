-- `sentinels::leaf_for` meets its contract. The loop keeps that from the node stood on the same leaf is come to as from the root.
use Rattle.std.proofs.Common.{◌-◌, ◌<◌, sym, ◌∙◌, arith}
use Rattle.model.specs.Slots.{view}
use Rattle.search.proofs.Standing.{root-lost, root-on, from-level, come-on}
use Rattle.sentinels.proofs.Searching.{leaf-lost, root-leaf, steps-down, steps-lost, last-lost, last-leaf}
use Rattle.sentinels.proofs.leaf_for.Goals as goal

pub returns-in_err-x : goal.returns-in_err-x
returns-in_err-x c = let a =
    c.args in c.from_residual.ensures ∙ leaf-lost _ (root-lost a.table.now a.root a.key c.requires _ c.read_root.ensures c.in_err-x.was)

pub leaf_at-requires-clause-n_value : goal.leaf_at-requires-clause-n_value
leaf_at-requires-clause-n_value c = let a = c.args in root-on a.table.now a.root a.key c.requires _ c.read_root.ensures _ c.in_ok-x.was

pub returns-then-x-eq0 : goal.returns-then-x-eq0
returns-then-x-eq0 c = let a = c.args in
    root-leaf (view a.table.now) _ a.root a.key _ _ c.if-x-eq0.true c.leaf_at.ensures
    (from-level a.table.now a.root a.key c.requires _ c.read_root.ensures _ c.in_ok-x.was)

pub stand-requires-clause-n_value : goal.stand-requires-clause-n_value
stand-requires-clause-n_value c = let a = c.args in root-on a.table.now a.root a.key c.requires _ c.read_root.ensures _ c.in_ok-x.was

pub returns-in_err-s : goal.returns-in_err-s
returns-in_err-s c = let a = c.args in
    c.from_residual-in_err-s.ensures
    ∙ steps-lost (view a.table.now) a.key _ a.root _ _ c.stand.ensures c.in_err-s.was
    (from-level a.table.now a.root a.key c.requires _ c.read_root.ensures _ c.in_ok-x.was)

pub loop-level-init : goal.loop-level-init
loop-level-init c = let a = c.args in
    let some-left : 0 < c.in_ok-x.x.level = omega arith in (
      steps-down (view a.table.now) a.key _ a.root _ _ some-left _ c.stand.ensures c.in_ok-s.was
          (from-level a.table.now a.root a.key c.requires _ c.read_root.ensures _ c.in_ok-x.was),
      some-left,
    )

pub returns-in_err-s-2 : goal.returns-in_err-s-2
returns-in_err-s-2 c = c.from_residual-in_err-s-2.ensures ∙ steps-lost _ _ _ _ _ _ c.come.ensures c.in_err-s-2.was c.loop-level.invariant.0

pub loop-level-preserved : goal.loop-level-preserved
loop-level-preserved c =
    let some-left : 0 < c.loop-level.level - 1 = omega arith in
    (steps-down _ _ _ _ _ _ some-left _ c.come.ensures c.in_ok-s-2.was c.loop-level.invariant.0, some-left)

pub returns-in_err-y : goal.returns-in_err-y
returns-in_err-y c =
    c.from_residual-in_err-y.ensures
    ∙ last-lost c.args.table.now c.args.key _ _ _ (omega (arith, c.loop-level.invariant.1)) c.loop-level.invariant.0
    (sym c.read_on.ensures ∙ c.in_err-y.was)

pub leaf_at-requires-2-clause-n_value : goal.leaf_at-requires-2-clause-n_value
leaf_at-requires-2-clause-n_value c = come-on c.args.table.now 0 _ _ (sym c.read_on.ensures ∙ c.in_ok-y.was)

pub returns : goal.returns
returns c =
    last-leaf c.args.table.now c.args.key _ _ _ (omega (arith, c.loop-level.invariant.1)) c.loop-level.invariant.0 _ _
    (sym c.read_on.ensures ∙ c.in_ok-y.was) c.leaf_at-2.ensures
