-- `reclass::set_class` meets its contract.
use Rattle.std.proofs.Common.{sym, ◌∙◌, arith, rules}
use Rattle.orders.specs.Desk.{desk}
use Rattle.list_laws.proofs.Tools.{handed-on}
use Rattle.model.specs.declared.Refusal.TheVariants.{KeyAbsent, BadClass}
use Rattle.model.specs.Writes.{class_change}
use Rattle.two_laws.proofs.SearchTwo.{sound-head}
use Rattle.write.proofs.Judging.{judged-ready}
use Rattle.write.proofs.Ending.{Begun, refused-for, judge-refuses, mend-room, mended-collection, finish-room, done-call}
use Rattle.reclass.proofs.Reclassing.{tree-sound, class-refused, key-refused, classed, begun, class-low, mended-header, leaf-plain}
use Rattle.reclass.proofs.Reclassing.{leaf-place, class-room, class-stored}
use Rattle.reclass.proofs.set_class.Goals.{After-new}
use Rattle.reclass.proofs.set_class.Goals as goal

-- the call is accepted, and its writer begins
begun-at : (c : After-new) → let a =
    c.args in Begun (class_change a.collection a.key a.access) a.dock (desk a.table.now a.list.now c.new.result)
    (classed a.collection a.key a.access)
begun-at c =
    begun _ _ _ _ _ (sym c.judge.ensures ∙ c.in_ok-leftover.was) c.class_ok.ensures c.if-not-class_ok.false c.root_of.ensures
    c.has_key.ensures c.if-not-has_key.false c.new.ensures

pub returns-in_err-leftover : goal.returns-in_err-leftover
returns-in_err-leftover c =
    let all = judge-refuses (class_change c.args.collection c.args.key c.args.access) _ _ _ _
    (sym c.judge.ensures ∙ c.in_err-leftover.was) in
    record { value = rw (handed-on c.from_residual.ensures.1) all.0; table_after = all.1.0; list_after = all.1.1 }

pub returns-then-not-class_ok : goal.returns-then-not-class_ok
returns-then-not-class_ok c =
    let n = class-refused c.args.collection c.args.key _ _ _ _ _ (sym c.judge.ensures ∙ c.in_ok-leftover.was) c.class_ok.ensures
    c.if-not-class_ok.true in
    let all = refused-for (class_change c.args.collection c.args.key c.args.access) _ _ _ BadClass (λ z. omega arith) n in
    record { value = all.0; table_after = all.1.0; list_after = all.1.1 }

pub root_of-requires : goal.root_of-requires
root_of-requires c =
    let p = judged-ready (class_change c.args.collection c.args.key c.args.access) _ _ _ _ (sym c.judge.ensures ∙ c.in_ok-leftover.was) in
    record { table_value = sound-head _ p.found.is-sound; table_value_2 = p.collection }

pub has_key-requires : goal.has_key-requires
has_key-requires c =
    tree-sound _ c.args.key _ _ _ _ _ (sym c.judge.ensures ∙ c.in_ok-leftover.was) c.class_ok.ensures
    c.if-not-class_ok.false c.root_of.ensures

pub returns-then-not-has_key : goal.returns-then-not-has_key
returns-then-not-has_key c =
    let n = key-refused _ _ _ _ _ _ _ (sym c.judge.ensures ∙ c.in_ok-leftover.was) c.class_ok.ensures c.if-not-class_ok.false
    c.root_of.ensures c.has_key.ensures c.if-not-has_key.true in
    let all = refused-for (class_change c.args.collection c.args.key c.args.access) _ _ _ KeyAbsent (λ z. omega arith) n in
    record { value = all.0; table_after = all.1.0; list_after = all.1.1 }

pub mend-requires : goal.mend-requires
mend-requires c =
    let f = (judged-ready (class_change c.args.collection c.args.key c.args.access) _ _ _ _
    (sym c.judge.ensures ∙ c.in_ok-leftover.was)).found in
    let b = begun-at (goal.at.mend-requires c).After-new in
    record { table_value = f.is-sound; table_value_2 = f.leftover-is; room = mend-room b }

pub root_of-root-requires : goal.root_of-root-requires
root_of-root-requires c =
    let b = begun-at (goal.at.root_of-root-requires c).After-new in
    rw c.table-table.ensures record { table_value = mended-header b c.mend.ensures; table_value_2 = mended-collection b c.mend.ensures }

pub set_class-requires : goal.set_class-requires
set_class-requires c =
    let b = begun-at (goal.at.set_class-requires c).After-new in
    let m = c.mend.ensures in
    let r = rw c.table-table.ensures at c.root_of-root.ensures in
    let s = rw c.table-table.ensures at c.standing-leaf.ensures in
    let n = leaf-plain b m r s in
    record {
      n_value = n.there;
      n_value_2 = n.plain;
      n_in_bounds = leaf-place b m r s;
      access_bound = omega (arith, class-low b m);
      room = class-room b m r s;
    }

pub finish-requires : goal.finish-requires
finish-requires c =
    let b = begun-at (goal.at.finish-requires c).After-new in
    let r = rw c.table-table.ensures at c.root_of-root.ensures in
    let s = rw c.table-table.ensures at c.standing-leaf.ensures in
    finish-room b c.mend.ensures (class-stored b c.mend.ensures r s c.set_class.ensures)

pub returns : goal.returns
returns c =
    let b = begun-at (goal.at.returns c).After-new in
    let r = rw c.table-table.ensures at c.root_of-root.ensures in
    let s = rw c.table-table.ensures at c.standing-leaf.ensures in
    let all = done-call b c.mend.ensures (class-stored b c.mend.ensures r s c.set_class.ensures) c.finish.ensures.writer
    c.finish.ensures.counts in
    record { value = all.0.0; table_after = search (rules, all.1.0, all.0.1.0); list_after = search (rules, all.1.1, all.0.1.1) }
