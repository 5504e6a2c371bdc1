-- `write::judge_any` meets its contract.
use mathlib.Core.Path.{sym, ◌∙◌}
use Rattle.list_laws.proofs.Tools.{handed-on}
use Rattle.model.proofs.Numbers.{passed-zero, failed-some, failed-with}
use Rattle.table_laws.proofs.Header.{header-number-iff}
use Rattle.write.proofs.Judging.{wrong-header}
use Rattle.write.proofs.judge_any.Goals as goal

pub returns-in_err-header : goal.returns-in_err-header
returns-in_err-header c =
    let e = sym c.header.ensures ∙ c.in_err-header.was in
    rw (handed-on c.from_residual.ensures.1) (sym (failed-with _ e) ∙ wrong-header _ _ _ (failed-some _ e))

pub judge_rest-requires : goal.judge_rest-requires
judge_rest-requires c = (header-number-iff _).0 (passed-zero _ (sym c.header.ensures ∙ c.in_ok-header.was))
