-- `tour::tour` meets its contract.
use Rattle.std.proofs.Common.{◌≡◌, ◌<◌, ◌≤◌, true, arith}
use Rattle.model.specs.Table.{nodes}
use Rattle.tour.proofs.State.{long, top-few, root-not, root-few, before-less, state-start, state-pop, pop-less, state-on, state-refused}
use Rattle.tour.proofs.State.{pass-less, node-few, count-less, state-enter, enter-less, state-end}
use Rattle.tour.proofs.tour.Goals.{After-may_enter, After-may_enter-in-Some}
use Rattle.tour.proofs.tour.Goals as goal

-- a root that is entered has a number of 16 bits, and the order has room for it
rooted : (c : After-may_enter) → c.may_enter.result ≡ true → let t =
    c.args.table.now in (c.args.root ≤ 65535) × (c.args.before < nodes t) × (nodes t ≤ 65535)
rooted c y = let m = c.may_enter in
    let h = c.requires in
    let l = long c.told-marks c.told-stack c.told-ways c.told-order in (
      root-few _ _ _ _ _ _ h l _ c.read.result c.read.ensures m.result m.ensures y,
      before-less _ _ _ _ _ _ h l _ c.read.result c.read.ensures m.result m.ensures y,
      top-few _ _ _ _ _ _ h l,
    )

-- a node that is entered has such a number too
met-few : (c : After-may_enter-in-Some) → c.may_enter-in-Some.result ≡ true → c.in-Some.met.node ≤ 65535
met-few c y = let d = c.loop-depth-test.true in
    let m = c.may_enter-in-Some in
    node-few _ _ _ _ _ _ _ _ _ _ (omega (arith, d)) c.loop-depth.invariant c.look-seen.result c.look-seen.ensures c.in-Some.met
    c.in-Some.is m.result m.ensures y

pub may_enter-requires : goal.may_enter-requires
may_enter-requires c = top-few _ _ _ _ _ _ c.requires (long c.told-marks c.told-stack c.told-ways c.told-order)

pub returns-then-not-may_enter : goal.returns-then-not-may_enter
returns-then-not-may_enter c = let m = c.may_enter in
    let h = c.requires in
    let r = root-not _ _ _ _ _ _ h (long c.told-marks c.told-stack c.told-ways c.told-order) _ c.read.result c.read.ensures m.result
    m.ensures c.if-not-may_enter.true in record { order_after = r.0; marked = r.1; lower_bound = r.2 }

pub put-requires : goal.put-requires
put-requires c = let q = rooted (goal.at.put-requires c).After-may_enter c.if-not-may_enter.false in omega (arith, q.0)

pub overflow_cast-stack : goal.overflow_cast-stack
overflow_cast-stack c = let q = rooted (goal.at.overflow_cast-stack c).After-may_enter c.if-not-may_enter.false in omega (arith, q.0)

pub overflow_cast-order : goal.overflow_cast-order
overflow_cast-order c = let q = rooted (goal.at.overflow_cast-order c).After-may_enter c.if-not-may_enter.false in omega (arith, q.0)

pub offset_bounds-order-before : goal.offset_bounds-order-before
offset_bounds-order-before c = let q =
    rooted (goal.at.offset_bounds-order-before c).After-may_enter c.if-not-may_enter.false in omega (arith, q.1, q.2)

pub bounds-order-before : goal.bounds-order-before
bounds-order-before c = let q = rooted (goal.at.bounds-order-before c).After-may_enter c.if-not-may_enter.false in omega (arith, q.1, q.2)

pub overflow_add-count : goal.overflow_add-count
overflow_add-count c = let q = rooted (goal.at.overflow_add-count c).After-may_enter c.if-not-may_enter.false in omega (arith, q.1, q.2)

pub loop-depth-init : goal.loop-depth-init
loop-depth-init c = let m = c.may_enter in
    let h = c.requires in
    state-start _ _ _ _ _ _ h (long c.told-marks c.told-stack c.told-ways c.told-order) _ c.read.result c.read.ensures m.result m.ensures
    c.if-not-may_enter.false _ c.put.ensures

pub loop-depth-smaller-then-w-gt13 : goal.loop-depth-smaller-then-w-gt13
loop-depth-smaller-then-w-gt13 c = let d = c.loop-depth-test.true in pop-less _ _ _ _ _ _ _ _ _ _ (omega (arith, d)) c.loop-depth.invariant

pub loop-depth-preserved-then-w-gt13 : goal.loop-depth-preserved-then-w-gt13
loop-depth-preserved-then-w-gt13 c = let d =
    c.loop-depth-test.true in state-pop _ _ _ _ _ _ _ _ _ _ (omega (arith, d)) c.loop-depth.invariant c.if-w-gt13.true

pub put-requires-then-may_enter : goal.put-requires-then-may_enter
put-requires-then-may_enter c = let q =
    met-few (goal.at.put-requires-then-may_enter c).After-may_enter-in-Some c.if-may_enter.true in omega
    (arith, q, c.loop-depth.invariant.wide.marks)

pub overflow_cast-order-then-may_enter : goal.overflow_cast-order-then-may_enter
overflow_cast-order-then-may_enter c = let q =
    met-few (goal.at.overflow_cast-order-then-may_enter c).After-may_enter-in-Some c.if-may_enter.true in omega (arith, q)

pub overflow_cast-stack-then-may_enter : goal.overflow_cast-stack-then-may_enter
overflow_cast-stack-then-may_enter c = let q =
    met-few (goal.at.overflow_cast-stack-then-may_enter c).After-may_enter-in-Some c.if-may_enter.true in omega (arith, q)

pub bounds-ways-depth : goal.bounds-ways-depth
bounds-ways-depth c = let d = c.loop-depth-test.true in
    let s = c.loop-depth.invariant in
    let q = count-less _ _ _ _ _ _ _ _ _ _ (omega (arith, d)) s c.look-seen.result c.look-seen.ensures c.in-Some.met c.in-Some.is
    c.may_enter-in-Some.result
    c.may_enter-in-Some.ensures c.if-may_enter.true in
    omega (arith, q, s.deep, s.few)

pub loop-depth-smaller-then-may_enter : goal.loop-depth-smaller-then-may_enter
loop-depth-smaller-then-may_enter c = let d = c.loop-depth-test.true in
    let s = c.loop-depth.invariant in
    enter-less _ _ _ _ _ _ _ _ _ _ (omega (arith, d)) s c.look-seen.result c.look-seen.ensures c.in-Some.met c.in-Some.is
    c.may_enter-in-Some.result
    c.may_enter-in-Some.ensures c.if-may_enter.true

pub loop-depth-preserved-then-may_enter : goal.loop-depth-preserved-then-may_enter
loop-depth-preserved-then-may_enter c = let d = c.loop-depth-test.true in
    let s = c.loop-depth.invariant in
    state-enter _ _ _ _ _ _ _ _ _ _ (omega (arith, d)) s c.look-seen.result c.look-seen.ensures c.in-Some.met c.in-Some.is
    c.may_enter-in-Some.result
    c.may_enter-in-Some.ensures c.if-may_enter.true _ c.put-then-may_enter.ensures

pub loop-depth-smaller-else-may_enter : goal.loop-depth-smaller-else-may_enter
loop-depth-smaller-else-may_enter c = let d = c.loop-depth-test.true in
    let s = c.loop-depth.invariant in
    pass-less _ _ _ _ _ _ _ _ _ _ (omega (arith, d)) s c.look-seen.result c.look-seen.ensures

pub loop-depth-preserved-else-may_enter : goal.loop-depth-preserved-else-may_enter
loop-depth-preserved-else-may_enter c = let d = c.loop-depth-test.true in
    let s = c.loop-depth.invariant in
    state-refused _ _ _ _ _ _ _ _ _ _ (omega (arith, d)) s c.look-seen.result c.look-seen.ensures c.in-Some.met c.in-Some.is
    c.may_enter-in-Some.result c.may_enter-in-Some.ensures c.if-may_enter.false

pub loop-depth-smaller : goal.loop-depth-smaller
loop-depth-smaller c = let d = c.loop-depth-test.true in
    let s = c.loop-depth.invariant in
    pass-less _ _ _ _ _ _ _ _ _ _ (omega (arith, d)) s c.look-seen.result c.look-seen.ensures

pub loop-depth-preserved : goal.loop-depth-preserved
loop-depth-preserved c = let d = c.loop-depth-test.true in
    let s = c.loop-depth.invariant in
    state-on _ _ _ _ _ _ _ _ _ _ (omega (arith, d)) s c.look-seen.result c.look-seen.ensures c.in_default.is

pub returns : goal.returns
returns c = let r = state-end _ _ _ _ _ _ _ _ _ _ (let l = c.loop-depth-test.false in omega (arith, l)) c.loop-depth.invariant in record
    { order_after = r.0; marked = r.1; lower_bound = r.2 }
