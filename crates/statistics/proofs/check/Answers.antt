-- `statistics::check` meets its contract.
use Rattle.std.proofs.Common.{sym, ◌∙◌}
use Rattle.list_laws.proofs.Tools.{handed-on}
use Rattle.model.proofs.Numbers.{passed-zero, failed-some, failed-with}
use Rattle.statistics.proofs.Whole.{no-table, not-sound, was-found, is-sound}
use Rattle.statistics.proofs.check.Goals as goal

pub returns-in_err-header : goal.returns-in_err-header
returns-in_err-header c =
    let e = sym c.header.ensures ∙ c.in_err-header.was in
    let both = no-table _ _ (failed-some _ e) in
    record { value = rw (handed-on c.from_residual.ensures.1) (sym (failed-with _ e) ∙ both.0); out_after = both.1 }

pub returns-in_err-whole : goal.returns-in_err-whole
returns-in_err-whole c =
    let both = not-sound _ _ c.check.ensures (passed-zero _ (sym c.header.ensures ∙ c.in_ok-header.was))
    (sym c.ok_or.ensures.value ∙ c.in_err-whole.was) in
    record { value = rw (handed-on c.from_residual-in_err-whole.ensures.1) both.0; out_after = both.1 }

pub report_of-requires : goal.report_of-requires
report_of-requires c = was-found _ c.args.out.now c.check.ensures (sym c.ok_or.ensures.value ∙ c.in_ok-whole.was)

pub returns : goal.returns
returns c =
    let both = is-sound _ _ _ _ (was-found _ c.args.out.now c.check.ensures (sym c.ok_or.ensures.value ∙ c.in_ok-whole.was))
    _ c.report_of.ensures in
    record { value = both.0; out_after = both.1 }
