-- `quick_reclass::set_class` meets its contract.
use Rattle.std.proofs.Common.{sym, refl, ◌∙◌, arith, rules}
use Rattle.list_laws.proofs.Tools.{handed-on}
use Rattle.orders.proofs.Rest.{room-as, stored-as}
use Rattle.way.proofs.Walking.{along-low}
use Rattle.quick.proofs.Ending.{call-room, finish-room, done-call}
use Rattle.quick_reclass.proofs.Calling.{words-as, begin-refuses, lent-refuses, class-refuses, key-refuses, Ready, ready, begun}
use Rattle.quick_reclass.proofs.set_class.Goals.{After-new}
use Rattle.quick_reclass.proofs.set_class.Goals as goal

pub returns-in_err-way : goal.returns-in_err-way
returns-in_err-way c =
    let all = begin-refuses _ _ _ _ _ _ _ c.in_err-way.ensures.number in
    record { value = rw (handed-on c.from_residual.ensures.1) all.value; table_after = all.table_after; list_after = all.list_after }

pub returns-in_err-writes : goal.returns-in_err-writes
returns-in_err-writes c =
    let all = lent-refuses _ _ _ _ _ _ _ c.in_ok-way.ensures.number (sym c.in_err-writes.ensures) in
    record {
      value = rw (handed-on c.from_residual-in_err-writes.ensures.1) all.value;
      table_after = all.table_after;
      list_after = all.list_after;
    }

pub returns-then-not-class_ok : goal.returns-then-not-class_ok
returns-then-not-class_ok c =
    let all = class-refuses _ _ _ _ _ _ _ c.in_ok-way.ensures.number (sym c.in_ok-writes.ensures)
    (sym c.if-not-class_ok.true ∙ c.class_ok.ensures) in
    record { value = all.value; table_after = all.table_after; list_after = all.list_after }

pub on_level-leaf-requires : goal.on_level-leaf-requires
on_level-leaf-requires c = along-low (c.in_ok-way.ensures.way _ refl)

pub returns-then-not-has_key : goal.returns-then-not-has_key
returns-then-not-has_key c =
    let all =
    key-refuses _ _ _ _ _ _ _ c.in_ok-way.ensures.number (sym c.in_ok-writes.ensures) (sym c.if-not-class_ok.false ∙ c.class_ok.ensures)
    (c.in_ok-way.ensures.way _ refl) c.on_level-leaf.ensures
    (sym c.if-not-has_key.true ∙ c.has_key.ensures) in
    record { value = all.value; table_after = all.table_after; list_after = all.list_after }

ready-at : (c : After-new) → let a =
    c.args in Ready a.collection a.key a.access a.dock a.table.now a.list.now a.summary.now c.on_level-leaf.result
ready-at c =
    ready _ _ _ _ _ _ _ c.in_ok-way.ensures.number (sym c.in_ok-writes.ensures) (sym c.if-not-class_ok.false ∙ c.class_ok.ensures)
    (c.in_ok-way.ensures.way _ refl) c.on_level-leaf.ensures
    (sym c.if-not-has_key.false ∙ c.has_key.ensures)

pub set_class-requires : goal.set_class-requires
set_class-requires c =
    let r = ready-at (goal.at.set_class-requires c).After-new in
    record {
      n_value = r.there;
      n_value_2 = r.plain;
      n_in_bounds = r.place;
      access_bound = omega (arith, r.class-low);
      room = room-as _ _ _ r.stores (call-room (begun r c.new.ensures));
    }

pub finish-requires : goal.finish-requires
finish-requires c =
    let r = ready-at (goal.at.finish-requires c).After-new in
    finish-room (begun r c.new.ensures) (stored-as r.stores c.set_class.ensures)

pub returns : goal.returns
returns c =
    let a = c.args in
    let r = ready-at (goal.at.returns c).After-new in
    let all =
    done-call (begun r c.new.ensures) (stored-as r.stores c.set_class.ensures) c.finish.ensures.writer c.finish.ensures.counts
    (words-as a.collection a.key a.access a.summary.now a.table.now) in
    record {
      value = all.0.value;
      table_after = search (rules, all.1.0, all.0.table_after);
      list_after = search (rules, all.1.1, all.0.list_after);
    }
