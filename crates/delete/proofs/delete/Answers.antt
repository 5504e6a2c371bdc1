-- `delete::delete` meets its contract.
use Rattle.std.proofs.Common.{sym, ◌∙◌, arith, rules}
use Rattle.list_laws.proofs.Tools.{handed-on}
use Rattle.model.specs.declared.Refusal.TheVariants.{KeyAbsent}
use Rattle.model.specs.Table.{Words}
use Rattle.model.specs.Writes.{delete_settled, deletion}
use Rattle.two_laws.proofs.SearchTwo.{sound-head}
use Rattle.orders.specs.Desk.{desk}
use Rattle.write.proofs.Judging.{judged-ready}
use Rattle.write.proofs.Ending.{Begun, refused-for, judge-refuses, begun-allows, mend-room, mended-table, mended-settled, mended-collection}
use Rattle.write.proofs.Ending.{rest-room, finish-room, done-call}
use Rattle.delete.proofs.Deleting.{tree-sound, delete-refused, begun}
use Rattle.delete.proofs.delete.Goals.{After-new}
use Rattle.delete.proofs.delete.Goals as goal

-- the call is accepted, and its writer begins
begun-at : (c : After-new) → let a =
    c.args in Begun (deletion a.collection a.key) a.dock (desk a.table.now a.list.now c.new.result)
    (λ (t : Words). delete_settled a.collection t a.key)
begun-at c = begun _ _ _ _ (sym c.judge.ensures ∙ c.in_ok-leftover.was) c.root_of.ensures c.has_key.ensures
    c.if-not-has_key.false c.new.ensures

pub returns-in_err-leftover : goal.returns-in_err-leftover
returns-in_err-leftover c =
    let all = judge-refuses (deletion c.args.collection c.args.key) _ _ _ _ (sym c.judge.ensures ∙ c.in_err-leftover.was) in
    record { value = rw (handed-on c.from_residual.ensures.1) all.0; table_after = all.1.0; list_after = all.1.1 }

pub root_of-requires : goal.root_of-requires
root_of-requires c =
    let p = judged-ready (deletion c.args.collection c.args.key) _ _ _ _ (sym c.judge.ensures ∙ c.in_ok-leftover.was) in
    record { table_value = sound-head _ p.found.is-sound; table_value_2 = p.collection }

pub has_key-requires : goal.has_key-requires
has_key-requires c = tree-sound _ c.args.key _ _ _ _ (sym c.judge.ensures ∙ c.in_ok-leftover.was) c.root_of.ensures

pub returns-then-not-has_key : goal.returns-then-not-has_key
returns-then-not-has_key c =
    let n = delete-refused _ _ _ _ _ _ (sym c.judge.ensures ∙ c.in_ok-leftover.was) c.root_of.ensures c.has_key.ensures
    c.if-not-has_key.true in
    let all = refused-for (deletion c.args.collection c.args.key) _ _ _ KeyAbsent (λ z. omega arith) n in
    record { value = all.0; table_after = all.1.0; list_after = all.1.1 }

pub mend-requires : goal.mend-requires
mend-requires c =
    let j = sym c.judge.ensures ∙ c.in_ok-leftover.was in
    let f = (judged-ready (deletion c.args.collection c.args.key) _ _ _ _ j).found in
    record { table_value = f.is-sound; table_value_2 = f.leftover-is; room = mend-room (begun-at (goal.at.mend-requires c).After-new) }

pub take_out-requires : goal.take_out-requires
take_out-requires c =
    let b = begun-at (goal.at.take_out-requires c).After-new in
    let m = c.mend.ensures in
    record {
      table_value = mended-collection b m;
      table_value_2 = mended-settled b m;
      table_value_3 = rw (← mended-table b m) at (begun-allows b);
      room = rest-room b m;
    }

pub finish-requires : goal.finish-requires
finish-requires c =
    let b = begun-at (goal.at.finish-requires c).After-new in
    finish-room b c.mend.ensures c.take_out.ensures

pub returns : goal.returns
returns c =
    let b = begun-at (goal.at.returns c).After-new in
    let all = done-call b c.mend.ensures c.take_out.ensures c.finish.ensures.writer c.finish.ensures.counts in
    record { value = all.0.0; table_after = search (rules, all.1.0, all.0.1.0); list_after = search (rules, all.1.1, all.0.1.1) }
