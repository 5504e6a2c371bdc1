-- `search::descend` meets its contract. The loop keeps that from the node stood on the same is seen of the leaf as from the root.
use Rattle.std.proofs.Common.{sym, ap, ◌∙◌, arith}
use Rattle.model.specs.Slots.{view}
use Rattle.search.specs.Descent.{seen_in}
use Rattle.search.proofs.Standing.{root-lost, root-on, from-level, comes, comes-not, turn-lost, turn-down, turned}
use Rattle.search.proofs.descend.Goals as goal

pub returns-in_err-x : goal.returns-in_err-x
returns-in_err-x c = let a =
    c.args in c.from_residual.ensures
    ∙ sym (ap (seen_in (view a.table.now) a.key) (root-lost a.table.now a.root a.key c.requires _ c.read_root.ensures c.in_err-x.was))

pub stand-requires-clause-n_value : goal.stand-requires-clause-n_value
stand-requires-clause-n_value c = let a = c.args in root-on a.table.now a.root a.key c.requires _ c.read_root.ensures _ c.in_ok-x.was

pub returns-in_err-s : goal.returns-in_err-s
returns-in_err-s c = let a = c.args in
    c.from_residual-in_err-s.ensures ∙ comes-not _ _ _ _ (sym c.stand.ensures ∙ c.in_err-s.was)
    ∙ ap (seen_in (view a.table.now) a.key) (from-level a.table.now a.root a.key c.requires _ c.read_root.ensures _ c.in_ok-x.was)

pub loop-level-init : goal.loop-level-init
loop-level-init c = let a = c.args in
    comes _ _ _ _ _ (sym c.stand.ensures ∙ c.in_ok-s.was)
    ∙ ap (seen_in (view a.table.now) a.key) (from-level a.table.now a.root a.key c.requires _ c.read_root.ensures _ c.in_ok-x.was)

pub returns-in_err-s-2 : goal.returns-in_err-s-2
returns-in_err-s-2 c =
    c.from_residual-in_err-s-2.ensures ∙ turn-lost _ _ _ _ _ (omega arith) c.loop-level.invariant _ c.come.ensures c.in_err-s-2.was

pub loop-level-preserved : goal.loop-level-preserved
loop-level-preserved c = turn-down _ _ _ _ _ (omega arith) c.loop-level.invariant _ _ c.come.ensures c.in_ok-s-2.was

pub returns : goal.returns
returns c = turned _ _ _ _ _ (omega arith) c.loop-level.invariant
