-- `script::Session::end_line` meets its contract.
use mathlib.Core.Path.{refl, ap, ◌∙◌}
use Rattle.std.specs.Prelude.{Ok}
use Rattle.script.proofs.Spoken.{ended-left, asks-nothing, asks-refused, refused-left}
use Rattle.script.proofs.Session.end_line.Goals as goal

pub returns-in-Ok-Some : goal.returns-in-Ok-Some
returns-in-Ok-Some c =
    let a = c.act-answer.ensures in
    let p = c.put_answer.ensures in
    record {
      is = ended-left _ _ _ c.judge.ensures (c.in-Ok-Some.is ∙ ap Ok c.in-Ok-Some.field-0-is) _ a.value a.table_after a.list_after refl p;
      slices = record { same_table = refl; same_list = refl; same_buffer = p.same_buffer };
    }

pub returns-in-Ok-None : goal.returns-in-Ok-None
returns-in-Ok-None c =
    let p = c.put_refused.ensures in
    record {
      is = refused-left _ (asks-nothing _ _ _ c.judge.ensures (c.in-Ok-None.is ∙ ap Ok c.in-Ok-None.field-0-is)) refl p;
      slices = record { same_table = refl; same_list = refl; same_buffer = p.same_buffer };
    }

pub returns-in-Err : goal.returns-in-Err
returns-in-Err c =
    let p = c.put_refused-in-Err.ensures in
    record {
      is = refused-left _ (asks-refused _ _ _ _ _ c.judge.ensures c.in-Err.is c.from.ensures) refl p;
      slices = record { same_table = refl; same_list = refl; same_buffer = p.same_buffer };
    }
