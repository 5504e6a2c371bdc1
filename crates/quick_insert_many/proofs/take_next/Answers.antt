-- `quick_insert_many::take_next` meets its contract.
use Rattle.std.proofs.Common.{add-one, arith}
use Rattle.list_laws.proofs.Tools.{handed-on}
use Rattle.model.specs.Batch.{insertion_of}
use Rattle.quick_insert_many.proofs.Going.{pair, free, Answered, answered-by, next-refused, next-done, orders-fit, list-stays}
use Rattle.quick_insert_many.proofs.take_next.Goals.{After-insert}
use Rattle.quick_insert_many.proofs.take_next.Goals as goal

-- what the single call answered
answered : (c : After-insert)
    → let a = c.args in
    Answered (insertion_of a.collection (pair a.pairs.now a.p)) a.dock (free a.p a.list.now) a.summary.now a.table.now c.insert.result
    c.insert.new.list c.insert.new.summary c.insert.new.table
answered c =
    let a = c.args in
    let e = c.insert.ensures in
    answered-by a.collection (pair a.pairs.now a.p) c.recording-recording.ensures c.class-access.ensures
    (record { value = e.value; table = e.table_after; list = e.list_after; summary = e.summary_after })

pub returns-in_err-counts-clause-same : goal.returns-in_err-counts-clause-same
returns-in_err-counts-clause-same c =
    let a = c.args in
    let w = (goal.at.returns-in_err-counts-clause-same c).After-insert in
    rw (handed-on c.from_residual.ensures.1)
    (next-refused a.collection a.dock a.pairs.now a.p a.list.now a.summary.now a.table.now c.requires.filled_in_bounds
    c.requires.taken_in_bounds (answered w) _ c.in_err-counts.was)

-- the words that the pair's orders fill are in the list, and so are those before them: each sum is low
pub add-requires : goal.add-requires
add-requires c =
    let a = c.args in
    let w = (goal.at.add-requires c).After-insert in
    let fit = orders-fit a.collection a.dock a.pairs.now a.p a.list.now a.summary.now a.table.now c.requires.filled_in_bounds
    c.requires.taken_in_bounds (answered w) _ c.in_ok-counts.was in
    record { stores = omega (arith, fit); flushes = omega (arith, fit); barriers = omega (arith, fit) }

pub returns : goal.returns
returns c =
    let a = c.args in
    let q = c.requires in
    let w = (goal.at.returns c).After-insert in
    let same = next-done a.collection a.dock a.pairs.now a.p a.list.now a.summary.now a.table.now q.filled_in_bounds q.taken_in_bounds
    (answered w) _ c.in_ok-counts.was in
    let fit = orders-fit a.collection a.dock a.pairs.now a.p a.list.now a.summary.now a.table.now q.filled_in_bounds q.taken_in_bounds
    (answered w) _ c.in_ok-counts.was in
    let stays = list-stays a.collection a.dock a.pairs.now a.p a.list.now a.summary.now a.table.now q.filled_in_bounds q.taken_in_bounds
    (answered w) _ c.in_ok-counts.was in
    record { same = rw c.add.ensures same; gains = (add-one a.p.taken, rw c.add.ensures (omega (arith, fit, stays))) }
