-- `repair::repair` meets its contract.
use Rattle.std.proofs.Common.{List, [], sym, ◌∙◌, rules}
use Rattle.list_laws.proofs.Tools.{handed-on}
use Rattle.model.specs.Table.{Words}
use Rattle.model.specs.Orders.{Store}
use Rattle.model.specs.Writes.{repair}
use Rattle.orders.specs.Desk.{desk}
use Rattle.orders.proofs.Rest.{stored-none}
use Rattle.write.proofs.Judging.{judged-ready, ready-accepted}
use Rattle.write.proofs.Ending.{judge-refuses, Begun, mend-room, finish-room, done-call, repair-stores}
use Rattle.repair.proofs.repair.Goals.{After-new}
use Rattle.repair.proofs.repair.Goals as goal

abbrev nothing : Words → List Store
nothing t = []

-- the call is accepted, and its writer begins
begun : (c : After-new) → let a = c.args in Begun repair a.dock (desk a.table.now a.list.now c.new.result) nothing
begun c =
    let p = judged-ready repair _ _ _ _ (sym c.judge_any.ensures ∙ c.in_ok-leftover.was) in
    record { is-sound = p.found.is-sound; accepted = ready-accepted repair _ _ _ p tt; first = c.new.ensures; stores = repair-stores _ }

pub returns-in_err-leftover : goal.returns-in_err-leftover
returns-in_err-leftover c =
    let all = judge-refuses repair _ _ _ _ (sym c.judge_any.ensures ∙ c.in_err-leftover.was) in
    record { value = rw (handed-on c.from_residual.ensures.1) all.0; table_after = all.1.0; list_after = all.1.1 }

pub mend-requires : goal.mend-requires
mend-requires c =
    let e = sym c.judge_any.ensures ∙ c.in_ok-leftover.was in
    let p = judged-ready repair _ _ _ _ e in
    record {
      table_value = p.found.is-sound;
      table_value_2 = p.found.leftover-is;
      room = mend-room (begun (goal.at.mend-requires c).After-new);
    }

pub finish-requires : goal.finish-requires
finish-requires c =
    let b = begun (goal.at.finish-requires c).After-new in
    finish-room b c.mend.ensures stored-none

pub returns : goal.returns
returns c =
    let b = begun (goal.at.returns c).After-new in
    let all = done-call b c.mend.ensures stored-none c.finish.ensures.writer c.finish.ensures.counts in
    record { value = all.0.0; table_after = search (rules, all.1.0, all.0.1.0); list_after = search (rules, all.1.1, all.0.1.1) }
