-- `quick_insert::insert` meets its contract.
use Rattle.std.proofs.Common.{◌≡◌, ℕ, ◌*◌, ◌<◌, ◌≤◌, true, length, take, drop, sym, refl, ap, ◌∙◌, arith, rules}
use Rattle.std.specs.Prelude.{Ok}
use Rattle.model.specs.Results.{passed}
use Rattle.model.specs.Table.{nodes}
use Rattle.model.specs.Slots.{pointer_of, recording_ok}
use Rattle.model.specs.Writes.{insertion}
use Rattle.model.specs.Refusals.{first_number}
use Rattle.model.specs.Summary.{marks_in, cells_in, own_tests, quick_insert, quick_stores}
use Rattle.list_laws.proofs.Tools.{handed-on}
use Rattle.orders.specs.declared.Pen.{Pen}
use Rattle.orders.specs.Desk.{desk, first_pen}
use Rattle.orders.proofs.Rest.{room-as, stored-as}
use Rattle.way.specs.Ways.{Along}
use Rattle.quick.specs.Lists.{lent_number}
use Rattle.quick.proofs.Beginning.{marks-reach}
use Rattle.quick.proofs.Ending.{Begun, call-room, finish-room, done-call}
use Rattle.quick_insert.proofs.Testing.{along-size, number-few, recording-low}
use Rattle.quick_insert.proofs.Calling.{cells-some, begin-refuses, lent-refuses, own-refuses, recording-fits, class-fits, begun, stores-as}
use Rattle.quick_insert.proofs.Calling.{words-as}
use Rattle.quick_insert.proofs.insert.Goals.{After-split_at_mut-marks}
use Rattle.quick_insert.proofs.insert.Goals as goal

-- the two parts of the summary
front : (c : After-split_at_mut-marks) → c.split_at_mut-marks.result.0.now ≡ marks_in (nodes c.args.table.now) c.args.summary.now
front c = c.split_at_mut-marks.ensures.front ∙ ap (λ m. take m c.args.summary.now) c.mark_words.ensures

back : (c : After-split_at_mut-marks) → c.split_at_mut-marks.result.1.now ≡ cells_in (nodes c.args.table.now) c.args.summary.now
back c = c.split_at_mut-marks.ensures.back ∙ ap (λ m. drop m c.args.summary.now) c.mark_words.ensures

-- the way along the marks
along : (c : After-split_at_mut-marks)
    → Along c.args.collection c.split_at_mut-marks.result.0.now c.args.table.now c.args.key c.in_ok-way.way
along c = rw (front c) (c.in_ok-way.ensures.way c.in_ok-way.way refl)

reach : (c : After-split_at_mut-marks) → nodes c.args.table.now < 64 * length c.split_at_mut-marks.result.0.now
reach c = rw (front c) (marks-reach (nodes c.args.table.now) c.args.summary.now (c.in_ok-way.ensures.summary_len c.in_ok-way.way refl))

some : (c : After-split_at_mut-marks) → 0 < length c.split_at_mut-marks.result.1.now
some c = rw (back c)
    (cells-some (nodes c.args.table.now) c.args.summary.now (c.in_ok-way.ensures.summary_len c.in_ok-way.way refl)
    (along-size (along c)).some)

lends : (c : After-split_at_mut-marks) → passed (lent_number (length c.args.list.now) c.args.dock) ≡ Ok tt
lends c = sym c.writes.ensures ∙ c.in_ok-writes.was

-- the number of the own tests
abbrev own_number : After-split_at_mut-marks → ℕ
own_number c =
    let a = c.args in
    let s = c.split_at_mut-marks.result in
    first_number (own_tests (insertion a.collection a.key a.recording a.access) s.0.now s.1.now a.table.now)

-- they pass
module _ (c : After-split_at_mut-marks) (own : passed (own_number c) ≡ Ok tt) where
  fits : (recording_ok c.args.recording ≡ true) × (c.args.access ≤ 2)
  fits =
      let a = c.args in (
        recording-fits a.collection a.key a.recording a.access a.dock a.table.now a.list.now a.summary.now c.in_ok-way.ensures.number
            (lends c) (front c) (back c) own,
        class-fits a.collection a.key a.recording a.access a.dock a.table.now a.list.now a.summary.now c.in_ok-way.ensures.number
            (lends c) (front c) (back c) own,
      )

  begins : {p : Pen} → p ≡ first_pen c.args.dock → let a =
      c.args in Begun (insertion a.collection a.key a.recording a.access) a.dock a.summary.now (desk a.table.now a.list.now p)
  begins e =
      let a = c.args in
      begun a.collection a.key a.recording a.access a.dock a.table.now a.list.now a.summary.now c.in_ok-way.ensures.number (lends c)
      (front c) (back c) own e

  stores : {p : ℕ} → p ≡ pointer_of c.args.recording c.args.access
      → let a = c.args in quick_stores (insertion a.collection a.key a.recording a.access) a.summary.now a.table.now
      ≡ quick_insert a.collection c.split_at_mut-marks.result.0.now a.table.now a.key p
  stores e =
      let a = c.args in
      stores-as a.collection a.key a.recording a.access a.dock a.table.now a.list.now a.summary.now c.in_ok-way.ensures.number
      (lends c) (front c) (back c) e

pub returns-in_err-way : goal.returns-in_err-way
returns-in_err-way c =
    let a = c.args in
    let p = begin-refuses a.collection a.key a.recording a.access a.dock a.table.now a.list.now a.summary.now _
    c.in_err-way.ensures.number in
    record {
      value = rw (handed-on c.from_residual.ensures.1) p.value;
      table_after = p.table_after;
      list_after = p.list_after;
      summary_after = p.summary_after;
    }

pub returns-in_err-writes : goal.returns-in_err-writes
returns-in_err-writes c =
    let a = c.args in
    let p = lent-refuses a.collection a.key a.recording a.access a.dock a.table.now a.list.now a.summary.now c.in_ok-way.ensures.number
    (sym c.writes.ensures ∙ c.in_err-writes.was) in
    record {
      value = rw (handed-on c.from_residual-in_err-writes.ensures.1) p.value;
      table_after = p.table_after;
      list_after = p.list_after;
      summary_after = p.summary_after;
    }

pub bounds-table-2 : goal.bounds-table-2
bounds-table-2 c = omega (arith, along-size (c.in_ok-way.ensures.way c.in_ok-way.way refl))

pub may_insert-requires : goal.may_insert-requires
may_insert-requires c = record { along = along c; nodes_bound = reach c; cells_nonzero = some c }

pub returns-in_err-may_insert : goal.returns-in_err-may_insert
returns-in_err-may_insert c =
    let a = c.args in
    let w = (goal.at.returns-in_err-may_insert c).After-split_at_mut-marks in
    let p = own-refuses a.collection a.key a.recording a.access a.dock a.table.now a.list.now a.summary.now c.in_ok-way.ensures.number
    (lends w) (front w) (back w)
    (sym c.may_insert.ensures ∙ c.in_err-may_insert.was) in
    record {
      value = rw (handed-on c.from_residual-in_err-may_insert.ensures.1) p.value;
      table_after = p.table_after;
      list_after = p.list_after;
      summary_after = sym c.split_at_mut-marks.ensures.value ∙ p.summary_after;
    }

pub join-requires : goal.join-requires
join-requires c =
    let w = (goal.at.join-requires c).After-split_at_mut-marks in
    let f = fits w (sym c.may_insert.ensures ∙ c.in_ok-may_insert.was) in
    record { recording_bound = (recording-low _ f.0).1; access_bound = f.1 }

pub enter-requires : goal.enter-requires
enter-requires c =
    let w = (goal.at.enter-requires c).After-split_at_mut-marks in
    let m = sym c.may_insert.ensures ∙ c.in_ok-may_insert.was in
    record {
      along = along w;
      nodes_bound = reach w;
      room = room-as _ _ _ (stores w m c.join.ensures) (call-room (begins w m c.new.ensures));
    }

pub join-requires-2 : goal.join-requires-2
join-requires-2 c =
    let w = (goal.at.join-requires-2 c).After-split_at_mut-marks in
    let f = fits w (sym c.may_insert.ensures ∙ c.in_ok-may_insert.was) in
    record { recording_bound = (recording-low _ f.0).1; access_bound = (number-few (along w)).1 }

pub enter-requires-2 : goal.enter-requires-2
enter-requires-2 c = some (goal.at.enter-requires-2 c).After-split_at_mut-marks

pub finish-requires : goal.finish-requires
finish-requires c =
    let w = (goal.at.finish-requires c).After-split_at_mut-marks in
    let m = sym c.may_insert.ensures ∙ c.in_ok-may_insert.was in
    finish-room (begins w m c.new.ensures) (stored-as (stores w m c.join.ensures) c.enter.ensures.stores)

pub returns : goal.returns
returns c =
    let a = c.args in
    let w = (goal.at.returns c).After-split_at_mut-marks in
    let m = sym c.may_insert.ensures ∙ c.in_ok-may_insert.was in
    let words = words-as a.collection a.key a.recording a.access a.dock a.table.now a.list.now a.summary.now c.in_ok-way.ensures.number
    (lends w) (front w) (back w)
    c.join-2.ensures c.enter.ensures.marks_after c.enter-2.ensures in
    let all = done-call (begins w m c.new.ensures) (stored-as (stores w m c.join.ensures) c.enter.ensures.stores) c.finish.ensures.writer
    c.finish.ensures.counts words in
    record {
      value = all.0.value;
      table_after = search (rules, all.1.0, all.0.table_after);
      list_after = search (rules, all.1.1, all.0.list_after);
      summary_after = all.0.summary_after;
    }
