-- `sentinels::work_out` meets its contract.
use mathlib.Core.Path.{refl, sym, ◌∙◌}
use Rattle.list_laws.proofs.Tools.{handed-on}
use Rattle.model.specs.declared.Refusal.TheVariants.{NotSound}
use Rattle.model.proofs.Numbers.{refused-by, passed-zero, failed-some, failed-with}
use Rattle.sentinels.proofs.Refusing.{work-refused, work-unsound, work-done, work-long}
use Rattle.sentinels.proofs.work_out.Goals as goal

pub returns-in_err-refusal_any : goal.returns-in_err-refusal_any
returns-in_err-refusal_any c =
    let e = sym c.refusal_any.ensures ∙ c.in_err-refusal_any.was in
    let both = work-refused c.args.words.now c.args.table.now _ refl (failed-some _ e) in
    record { value = rw (handed-on c.from_residual.ensures.1) (sym (failed-with _ e) ∙ both.0); words_after = both.1 }

pub returns-then-not-is_sound : goal.returns-then-not-is_sound
returns-then-not-is_sound c =
    let z = sym (passed-zero _ (sym c.refusal_any.ensures ∙ c.in_ok-refusal_any.was)) in
    let both = work-unsound c.args.words.now c.args.table.now z (sym c.is_sound.ensures ∙ c.if-not-is_sound.true) in
    record { value = sym (refused-by NotSound) ∙ both.0; words_after = both.1 }

pub fill-requires : goal.fill-requires
fill-requires c =
    let z = sym (passed-zero _ (sym c.refusal_any.ensures ∙ c.in_ok-refusal_any.was)) in
    record { table_value = sym c.is_sound.ensures ∙ c.if-not-is_sound.false; words_len = work-long c.args.words.now c.args.table.now z }

pub returns : goal.returns
returns c =
    let z = sym (passed-zero _ (sym c.refusal_any.ensures ∙ c.in_ok-refusal_any.was)) in
    let both = work-done c.args.words.now c.args.table.now z _ (sym c.is_sound.ensures ∙ c.if-not-is_sound.false) c.fill.ensures in
    record { value = both.0; words_after = both.1 }
