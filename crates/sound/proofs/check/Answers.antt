-- `sound::check` meets its contract.
use Rattle.std.proofs.Common.{◌≡◌, true, sym, ◌∙◌, arith}
use Rattle.std.specs.Prelude.{None, Some}
use Rattle.model.specs.Table.{header_ok}
use Rattle.sound.proofs.TreesLaws.{BothSound, both-checked, tree-at, leaf-at, header-ok, wrong-header, one-tree, first-wrong, second-wrong}
use Rattle.sound.proofs.TreesLaws.{few-reached, same-leaf, both-trees}
use Rattle.sound.proofs.check.Goals.{In_ok-ok, In_ok-two}
use Rattle.sound.proofs.check.Goals as goal

-- the header is right; both trees are sound
head : (c : In_ok-ok) → header_ok c.args.table.now ≡ true
head c = header-ok _ _ c.header.ensures (sym c.ok.ensures.value ∙ c.in_ok-ok.was)

two-trees : (c : In_ok-two)
    → BothSound c.args.table.now c.in_ok-one.one.leftover c.in_ok-two.two.leftover c.in_ok-one.one.reached c.in_ok-two.two.reached
two-trees c =
    both-checked _ _ _ _ _ (header-ok _ _ c.header.ensures (sym c.ok.ensures.value ∙ c.in_ok-ok.was)) c.word_at-first.ensures
    c.word_at-second.ensures c.if-second-eq0.false c.in_ok-one.ensures c.in_ok-two.ensures

pub returns-in_err-ok : goal.returns-in_err-ok
returns-in_err-ok c = rw c.from_residual.ensures (wrong-header _ _ c.header.ensures (sym c.ok.ensures.value ∙ c.in_err-ok.was))

pub check_tree-requires : goal.check_tree-requires
check_tree-requires c = head (goal.at.check_tree-requires c).In_ok-ok

pub returns-in_err-one : goal.returns-in_err-one
returns-in_err-one c =
    let t = c.args.table.now in
    rw c.from_residual-in_err-one.ensures
    (first-wrong t (head (goal.at.returns-in_err-one c).In_ok-ok) (tree-at t 1 _ c.word_at-first.ensures None c.in_err-one.ensures))

pub returns-then-second-eq0 : goal.returns-then-second-eq0
returns-then-second-eq0 c =
    let t = c.args.table.now in
    sym (tree-at t 1 _ c.word_at-first.ensures (Some c.in_ok-one.one) c.in_ok-one.ensures)
    ∙ one-tree t (head (goal.at.returns-then-second-eq0 c).In_ok-ok) (sym c.word_at-second.ensures ∙ c.if-second-eq0.true)

pub check_tree-requires-2 : goal.check_tree-requires-2
check_tree-requires-2 c = head (goal.at.check_tree-requires-2 c).In_ok-ok

pub returns-in_err-two : goal.returns-in_err-two
returns-in_err-two c =
    let t = c.args.table.now in
    rw c.from_residual-in_err-two.ensures
    (second-wrong t (head (goal.at.returns-in_err-two c).In_ok-ok) (λ z. c.if-second-eq0.false (c.word_at-second.ensures ∙ z))
    (tree-at t 3 _ c.word_at-second.ensures None c.in_err-two.ensures))

pub returns-then-last_leaf : goal.returns-then-last_leaf
returns-then-last_leaf c =
    let t = c.args.table.now in
    let k = two-trees (goal.at.returns-then-last_leaf c).In_ok-two in
    same-leaf k (sym (leaf-at t 1 _ c.word_at-first.ensures _ c.last_leaf.ensures) ∙ c.if-last_leaf.true
    ∙ leaf-at t 3 _ c.word_at-second.ensures _ c.last_leaf-2.ensures)

pub overflow_add-one : goal.overflow_add-one
overflow_add-one c =
    let t = c.args.table.now in
    let k = two-trees (goal.at.overflow_add-one c).In_ok-two in
    omega (arith, few-reached k)

pub returns : goal.returns
returns c =
    let t = c.args.table.now in
    let k = two-trees (goal.at.returns c).In_ok-two in
    c.joined.ensures
    ∙ both-trees k (λ q. c.if-last_leaf.false
    (leaf-at t 1 _ c.word_at-first.ensures _ c.last_leaf.ensures ∙ q
    ∙ sym (leaf-at t 3 _ c.word_at-second.ensures _ c.last_leaf-2.ensures)))
