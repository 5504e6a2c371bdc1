-- `search::next_from` meets its contract. The loop keeps that from the leaf that is read the same is found as from the first one.
use Rattle.std.specs.Prelude.{◌≡◌, ◌+◌, ◌-◌}
use Rattle.std.proofs.Common.{sym, ◌∙◌, arith}
use Rattle.list_laws.proofs.Tools.{handed-on}
use Rattle.model.specs.Table.{nodes}
use Rattle.search.proofs.Standing.{header-words, got-none, got-some}
use Rattle.search.proofs.Following.{first-turn, turns-over, turn-last, turn-lost, turn-found, turn-on}
use Rattle.search.proofs.next_from.Goals as goal

pub bounds-table-2 : goal.bounds-table-2
bounds-table-2 c = omega (arith, header-words _ c.requires.table_value)

pub loop-entered-init : goal.loop-entered-init
loop-entered-init c =
    let t = c.args.table.now in
    let e : nodes t - 0 ≡ nodes t = omega arith in
    rw e (first-turn t c.args.key c.args.leaf _ c.args.read c.requires.leaf_value c.requires.read_value)

pub returns-then-sibling-eq0 : goal.returns-then-sibling-eq0
returns-then-sibling-eq0 c = turn-last _ _ _ _ _ c.loop-entered.invariant (omega arith) c.if-sibling-eq0.true _ c.above.ensures

pub returns-in_err-y : goal.returns-in_err-y
returns-in_err-y c = let u = got-none _ (sym c.ok_or.ensures.value ∙ c.in_err-y.was) in
    rw (handed-on c.from_residual.ensures.1)
    (u.1 ∙ turn-lost _ _ _ _ _ c.loop-entered.invariant (omega arith) c.if-sibling-eq0.false _ c.read_on.ensures u.0)

pub returns-then-is_some : goal.returns-then-is_some
returns-then-is_some c =
    turn-found _ _ _ _ _ c.loop-entered.invariant (omega arith) c.if-sibling-eq0.false _ c.read_on.ensures _
    (got-some _ (sym c.ok_or.ensures.value ∙ c.in_ok-y.was))
    _ c.above-next.ensures (sym c.is_some.ensures ∙ c.if-is_some.true)

pub loop-entered-preserved : goal.loop-entered-preserved
loop-entered-preserved c =
    let n = nodes c.args.table.now in
    let i = c.loop-entered.entered in
    let e : n - (i + 1) ≡ n - i - 1 = omega arith in
    rw e (turn-on _ _ _ _ _ c.loop-entered.invariant (omega arith) c.if-sibling-eq0.false _ c.read_on.ensures _
    (got-some _ (sym c.ok_or.ensures.value ∙ c.in_ok-y.was))
    _ c.above-next.ensures (sym c.is_some.ensures ∙ c.if-is_some.false))

pub returns : goal.returns
returns c = turns-over _ _ _ _ _ c.loop-entered.invariant (omega arith)
