-- `recordings::enter_leaves` meets its contract. The loop keeps what the nodes from n on come to.
use Rattle.std.proofs.Common.{◌+◌, List, map, ℕ, ap, sym, ◌∙◌, arith}
use Rattle.list_laws.proofs.Tools.{handed-on}
use Rattle.model.specs.Table.{Words}
use Rattle.model.specs.Slots.{Slot, recording}
use Rattle.numbers.specs.Cells.{Outcome, entered_all}
use Rattle.recordings.specs.Rounds.{suspect}
use Rattle.recordings.proofs.RowLaws.{row-marked, row-end, row-more, row-skip, few-marked, enter-none, enter-next, enter-last}
use Rattle.recordings.proofs.LeafLaws.{none-own}
use Rattle.recordings.proofs.enter_leaves.Goals as goal

-- what slots come to, from the cells as they are
abbrev comes : (round : ℕ) (twice : Words) → Words → List Slot → Outcome
comes round twice cs ss = entered_all (suspect round twice) (map recording ss) cs

pub loop-n-init : goal.loop-n-init
loop-n-init c = let a = c.args in row-marked (comes a.round a.twice.now a.cells.now) _ _ _ c.last_marked-last.ensures

pub is_leaf-requires : goal.is_leaf-requires
is_leaf-requires c = few-marked _ _ _ _ c.requires c.last_marked-last.ensures (omega arith)

pub returns-in_err-enter_leaf : goal.returns-in_err-enter_leaf
returns-in_err-enter_leaf c = let a = c.args in let l = c.loop-n in
    rw (handed-on c.from_residual.ensures.1) (row-more (comes a.round a.twice.now l.cells) _ _ l.n _ l.invariant (omega arith)
    (enter-last _ _ _ l.cells _ _ (c.enter_leaf.ensures ∙ ap (comes a.round a.twice.now l.cells) c.read_leaf-x.ensures) _
    c.in_err-enter_leaf.was))

pub read_leaf-x-requires : goal.read_leaf-x-requires
read_leaf-x-requires c = sym c.is_leaf.ensures ∙ c.if-not-is_leaf.false

pub loop-n-preserved-then-not-is_leaf : goal.loop-n-preserved-then-not-is_leaf
loop-n-preserved-then-not-is_leaf c = let a = c.args in let l = c.loop-n in
    row-skip (comes a.round a.twice.now l.cells) _ _ l.n _ l.invariant (omega arith)
    (none-own _ _ _ _ c.is_leaf.ensures c.if-not-is_leaf.true)

pub loop-n-preserved : goal.loop-n-preserved
loop-n-preserved c = let a = c.args in let l = c.loop-n in
    row-more (comes a.round a.twice.now l.cells) _ _ l.n _ l.invariant (omega arith)
    (enter-next _ _ _ l.cells _ _
    (c.enter_leaf.ensures ∙ ap (comes a.round a.twice.now l.cells) c.read_leaf-x.ensures) c.in_ok-enter_leaf.was)

-- the last node
pub returns-then-not-is_leaf : goal.returns-then-not-is_leaf
returns-then-not-is_leaf c = let a = c.args in let l = c.loop-n in
    let F = comes a.round a.twice.now l.cells in
    enter-none _ _ ∙ row-end F _ _ (l.n + 1) _
    (row-skip F _ _ l.n _ l.invariant (omega arith) (none-own _ _ _ _ c.is_leaf.ensures c.if-not-is_leaf.true)) (omega arith)

pub returns-in_ok-enter_leaf : goal.returns-in_ok-enter_leaf
returns-in_ok-enter_leaf c = let a = c.args in let l = c.loop-n in
    let F = comes a.round a.twice.now l.cells in
    let e = enter-next _ _ _ l.cells _ _ (c.enter_leaf.ensures ∙ ap F c.read_leaf-x.ensures) c.in_ok-enter_leaf.was in
    enter-none _ _ ∙ row-end (comes a.round a.twice.now c.enter_leaf.new.cells) _ _ (l.n + 1) _
    (row-more F _ _ l.n _ l.invariant (omega arith) e) (omega arith)

pub returns : goal.returns
returns c = let a = c.args in let l = c.loop-n in
    enter-none _ _ ∙ row-end (comes a.round a.twice.now l.cells) _ _ l.n _ l.invariant (omega arith)
