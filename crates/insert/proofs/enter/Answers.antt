-- `insert::enter` meets its contract.
use mathlib.Core.Path.{ap}
use Rattle.reach.specs.declared.Run.{Run}
use Rattle.insert.proofs.Entering.{root-room, run-ready, recording-low, class-low, splits-room, split-header, split-collection, leaf-plain}
use Rattle.insert.proofs.Entering.{in-room, all-entered, root-marked, in-marked}
use Rattle.insert.proofs.enter.Goals as goal

pub grow-requires : goal.grow-requires
grow-requires c =
    let h = c.requires.enterable in
    record {
      growable = record {
        collection = h.collection;
        is-settled = h.is-settled;
        enough = h.enters.enough;
        whole-is = ap (λ (u : Run). u.root) h.run-is;
      };
      room = root-room h;
      marked = c.requires.marked;
    }

pub split_run-requires : goal.split_run-requires
split_run-requires c =
    let h = c.requires.enterable in
    let g = c.grow.ensures in
    record { ready = run-ready h g.stores; room = splits-room h g.stores; marked = root-marked h g.stores _ g.marked_2 }

pub root_of-root-requires : goal.root_of-root-requires
root_of-root-requires c =
    let h = c.requires.enterable in
    let g = c.grow.ensures.stores in
    let s = c.split_run.ensures.stores in
    rw c.table-table.ensures record { table_value = split-header h g s; table_value_2 = split-collection h g s }

pub join-requires : goal.join-requires
join-requires c =
    let h = c.requires.enterable in
    record { recording_bound = recording-low h; access_bound = class-low h }

pub shift_in-requires : goal.shift_in-requires
shift_in-requires c =
    let h = c.requires.enterable in
    let g = c.grow.ensures.stores in
    let s = c.split_run.ensures.stores in
    let e = rw c.table-table.ensures at c.root_of-root.ensures in
    let f = rw c.table-table.ensures at c.standing-leaf.ensures in
    let n = leaf-plain h g s e f in
    record { n_value = n.there; n_value_2 = n.plain; room = in-room h g s e f c.join.ensures }

pub returns : goal.returns
returns c =
    let h = c.requires.enterable in
    let g = c.grow.ensures.stores in
    let s = c.split_run.ensures in
    let e = rw c.table-table.ensures at c.root_of-root.ensures in
    let f = rw c.table-table.ensures at c.standing-leaf.ensures in
    record {
      stores = all-entered h g s.stores e f c.join.ensures c.shift_in.ensures;
      marked_2 = in-marked h g s.stores e f c.join.ensures c.shift_in.ensures _ s.marked_2;
    }
