-- `insert::insert_known` meets its contract.
use Rattle.std.proofs.Common.{◌≡◌, length, ◌∙◌, rules}
use Rattle.orders.specs.Desk.{desk}
use Rattle.list_laws.proofs.Tools.{handed-on}
use Rattle.model.specs.Writes.{repaired, insertion}
use Rattle.model.specs.Refusals.{refusal}
use Rattle.model.proofs.Numbers.{passed-zero, failed-some, failed-with}
use Rattle.two_laws.proofs.SearchTwo.{sound-head}
use Rattle.orders.proofs.Rest.{finish-table}
use Rattle.write.proofs.Judging.{Passed}
use Rattle.write.proofs.Ending.{refused-as, Begun, mend-room, mended-settled, mended-collection, rest-room, finish-room, done-call}
use Rattle.write.proofs.Rooted.{root-sound}
use Rattle.insert.specs.Tests.{run_of}
use Rattle.insert.proofs.Judging.{handed, run-later, insert-number}
use Rattle.insert.proofs.Entering.{entering, insert-stores, enter-enters, enter-run, enter-marked}
use Rattle.insert.proofs.Counting.{count-low, count-after}
use Rattle.insert.proofs.insert_known.Goals.{After-new}
use Rattle.insert.proofs.insert_known.Goals as goal

-- the call is not refused
passed : (c : After-new) → let a =
    c.args in Passed (insertion a.x.collection a.x.key a.x.recording a.x.access) (length a.list.now) a.dock a.table.now
    a.checked.leftover a.checked.reached
passed c = let a = c.args in let q = c.requires in
    handed a.x.collection a.x.key a.x.recording a.x.access q.found q.table_value q.dock_bound q.dock_in_bounds

running : (c : After-new) → let a = c.args in c.full_run-run.result ≡ run_of a.x.collection (repaired a.table.now) a.x.key
running c = run-later (passed c) c.parent_of.ensures c.root_of-root.ensures c.full_run-run.ensures

accepts : (c : After-new) → let a =
    c.args in refusal (insertion a.x.collection a.x.key a.x.recording a.x.access) (length a.list.now) a.dock a.table.now ≡ 0
accepts c = passed-zero _ (insert-number (passed c) (running c) c.may_insert_known.ensures ∙ c.in_ok-may_insert_known.was)

begun : (c : After-new)
    → let a = c.args in Begun (insertion a.x.collection a.x.key a.x.recording a.x.access) a.dock (desk a.table.now a.list.now c.new.result)
    (entering a.x.collection a.x.key a.x.recording a.x.access)
begun c = record { is-sound = c.requires.found.is-sound; accepted = accepts c; first = c.new.ensures; stores = insert-stores _ _ _ _ _ }

pub root_of-root-requires-clause-table_value : goal.root_of-root-requires-clause-table_value
root_of-root-requires-clause-table_value c = sound-head _ c.requires.found.is-sound

pub full_run-run-requires : goal.full_run-run-requires
full_run-run-requires c = root-sound _ _ _ c.root_of-root.ensures c.requires.found.is-sound c.requires.table_value

pub returns-in_err-may_insert_known : goal.returns-in_err-may_insert_known
returns-in_err-may_insert_known c =
    let a = c.args in
    let q = c.requires in
    let h = handed a.x.collection a.x.key a.x.recording a.x.access q.found q.table_value q.dock_bound q.dock_in_bounds in
    let e = insert-number h (run-later h c.parent_of.ensures c.root_of-root.ensures c.full_run-run.ensures) c.may_insert_known.ensures
    ∙ c.in_err-may_insert_known.was in
    let all = refused-as (insertion a.x.collection a.x.key a.x.recording a.x.access) _ _ _ _ (failed-some _ e) (failed-with _ e) in
    record {
      result_value = rw (handed-on c.from_residual.ensures.1) all.0;
      table_after = all.1.0;
      list_after = all.1.1;
      counts = rw (handed-on c.from_residual.ensures.1) tt;
      marked_2 = q.marked;
    }

pub mend-requires-clause-room : goal.mend-requires-clause-room
mend-requires-clause-room c = mend-room (begun (goal.at.mend-requires-clause-room c).After-new)

pub enter-requires : goal.enter-requires
enter-requires c =
    let w = (goal.at.enter-requires c).After-new in
    let b = begun w in
    let m = c.mend.ensures in
    record {
      enterable = record {
        collection = mended-collection b m;
        is-settled = mended-settled b m;
        enters = enter-enters b m;
        run-is = enter-run b m (running w);
        room = rest-room b m;
      };
      marked = enter-marked b m _ c.requires.marked;
    }

pub finish-requires : goal.finish-requires
finish-requires c = finish-room (begun (goal.at.finish-requires c).After-new) c.mend.ensures c.enter.ensures.stores

pub reached_after-requires : goal.reached_after-requires
reached_after-requires c = let w =
    (goal.at.reached_after-requires c).After-new in count-low _ _ _ _ _ _ _ (accepts w) (running w) c.requires.found.reached-are

pub returns : goal.returns
returns c =
    let w = (goal.at.returns c).After-new in
    let e = c.enter.ensures in
    let all = done-call (begun w) c.mend.ensures e.stores c.finish.ensures.writer c.finish.ensures.counts in
    record {
      result_value = all.0.0;
      table_after = search (rules, all.1.0, all.0.1.0);
      list_after = search (rules, all.1.1, all.0.1.1);
      counts = count-after _ _ _ _ _ _ _ (accepts w) (running w) c.requires.found.reached-are c.reached_after.ensures
          (search (rules, all.1.0, all.0.1.0));
      marked_2 = search (rules, all.1.0, finish-table c.finish.ensures.writer, e.marked_2);
    }
