-- `insert::insert` meets its contract.
use mathlib.Core.Path.{sym, ◌∙◌}
use Rattle.list_laws.proofs.Tools.{handed-on}
use Rattle.model.specs.Writes.{insertion}
use Rattle.two_laws.proofs.SearchTwo.{sound-head}
use Rattle.reach.proofs.Marking.{none-taken}
use Rattle.write.proofs.Judging.{judged-ready}
use Rattle.write.proofs.Ending.{judge-refuses}
use Rattle.write.proofs.Rooted.{root-sound}
use Rattle.insert.proofs.Testing.{found-here}
use Rattle.insert.proofs.insert.Goals as goal

pub returns-in_err-checked : goal.returns-in_err-checked
returns-in_err-checked c =
    let a = c.args in
    let all = judge-refuses (insertion a.collection a.key a.recording a.access) _ _ _ _ (sym c.judge.ensures ∙ c.in_err-checked.was) in
    record { value = rw (handed-on c.from_residual.ensures.1) all.0; table_after = all.1.0; list_after = all.1.1 }

pub root_of-requires : goal.root_of-requires
root_of-requires c =
    let a = c.args in
    let p = judged-ready (insertion a.collection a.key a.recording a.access) _ _ _ _ (sym c.judge.ensures ∙ c.in_ok-checked.was) in
    record { table_value = sound-head _ p.found.is-sound; table_value_2 = p.collection }

pub has_recording-known-requires : goal.has_recording-known-requires
has_recording-known-requires c =
    let a = c.args in
    let p = judged-ready (insertion a.collection a.key a.recording a.access) _ _ _ _ (sym c.judge.ensures ∙ c.in_ok-checked.was) in
    root-sound _ _ _ c.root_of.ensures p.found.is-sound p.collection

pub insert_known-requires : goal.insert_known-requires
insert_known-requires c =
    let a = c.args in
    let p = judged-ready (insertion a.collection a.key a.recording a.access) _ _ _ _ (sym c.judge.ensures ∙ c.in_ok-checked.was) in
    let f = p.found in
    record {
      found = record { is-sound = f.is-sound; leftover-is = f.leftover-is; reached-are = f.reached-are };
      table_value = p.collection;
      dock_bound = p.dock-ok;
      dock_in_bounds = p.long;
      known_value = found-here a.collection a.table.now _ c.root_of.ensures _ _ c.has_recording-known.ensures;
      marked = none-taken _;
    }
