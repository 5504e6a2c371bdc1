-- `quick_insert::enter` meets its contract.
use Rattle.std.proofs.Common.{sym, ◌∙◌, arith}
use Rattle.way.proofs.Walking.{along-low}
use Rattle.quick_insert.proofs.Testing.{along-size, along-few}
use Rattle.quick_insert.proofs.Entering.{grow-room, run-is, grown-size, run-room, made-marks, taker-there, taker-plain, last-room, all-made}
use Rattle.quick_insert.proofs.Entering.{none-made}
use Rattle.quick_insert.proofs.enter.Goals as goal

pub bounds-table-2 : goal.bounds-table-2
bounds-table-2 c = rw c.table.ensures (omega (arith, along-size c.requires.along))

pub grow-under-requires-clause-room : goal.grow-under-requires-clause-room
grow-under-requires-clause-room c = grow-room c.args.pointer c.args.writer.now c.requires.along c.requires.room

pub overflow_add-end : goal.overflow_add-end
overflow_add-end c = omega (arith, along-low c.requires.along)

pub overflow_sub-first : goal.overflow_sub-first
overflow_sub-first c = omega (arith, along-few c.requires.along)

pub offset_bounds-way-first : goal.offset_bounds-way-first
offset_bounds-way-first c = omega (arith, along-low c.requires.along)

pub slice_bounds-run-end : goal.slice_bounds-run-end
slice_bounds-run-end c = omega (arith, along-low c.requires.along)

pub split_run-taker-requires : goal.split_run-taker-requires
split_run-taker-requires c =
    let q = c.requires in
    let g = c.grow-under.ensures in
    let e = run-is c.args.pointer c.args.writer.now q.along q.room in
    rw c.table.ensures record {
      table_len = grown-size c.args.pointer c.args.writer.now q.along q.room g.stores g.marks_after g.under_value e;
      nodes_bound = (along-size q.along).few;
      nodes_bound_2 = omega (arith, q.nodes_bound, c.grow-under.auto.marks);
      room = run-room c.args.pointer c.args.writer.now q.along q.room g.stores g.marks_after g.under_value e;
    }

pub shift_in-requires : goal.shift_in-requires
shift_in-requires c =
    let q = c.requires in
    let f = c.args.writer.now in
    let x = c.args.pointer in
    let g = c.grow-under.ensures in
    let s = rw c.table.ensures at c.split_run-taker.ensures in
    let e = run-is x f q.along q.room in
    let ok = rw (c.table.ensures, c.table-2.ensures) at (sym c.roomy.ensures ∙ c.if-roomy.true) in
    record {
      n_value = taker-there x f q.along q.room g.stores g.marks_after g.under_value e s.stores s.marks_after s.under_value ok;
      n_value_2 = taker-plain x f q.along q.room g.stores g.marks_after g.under_value e s.stores s.marks_after s.under_value ok;
      room = last-room x f q.along q.room g.stores g.marks_after g.under_value e s.stores s.marks_after s.under_value ok;
    }

pub returns-then-roomy : goal.returns-then-roomy
returns-then-roomy c =
    let q = c.requires in
    let f = c.args.writer.now in
    let x = c.args.pointer in
    let g = c.grow-under.ensures in
    let s = rw c.table.ensures at c.split_run-taker.ensures in
    let e = run-is x f q.along q.room in
    let ok = rw (c.table.ensures, c.table-2.ensures) at (sym c.roomy.ensures ∙ c.if-roomy.true) in
    record {
      stores = all-made x f q.along q.room g.stores g.marks_after g.under_value e s.stores s.marks_after
          s.under_value ok c.shift_in.ensures;
      marks_after = made-marks x f q.along q.room g.stores g.marks_after g.under_value e s.stores s.marks_after s.under_value;
    }

pub returns-else-roomy : goal.returns-else-roomy
returns-else-roomy c =
    let q = c.requires in
    let f = c.args.writer.now in
    let x = c.args.pointer in
    let g = c.grow-under.ensures in
    let s = rw c.table.ensures at c.split_run-taker.ensures in
    let e = run-is x f q.along q.room in
    let no = rw (c.table.ensures, c.table-2.ensures) at (sym c.roomy.ensures ∙ c.if-roomy.false) in
    record {
      stores = none-made x f q.along q.room g.stores g.marks_after g.under_value e s.stores s.marks_after s.under_value no;
      marks_after = made-marks x f q.along q.room g.stores g.marks_after g.under_value e s.stores s.marks_after s.under_value;
    }
