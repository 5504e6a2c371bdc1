-- `sentinels::refusal_any` meets its contract.
use mathlib.Core.Path.{refl, ap, sym, ◌∙◌}
use Rattle.list_laws.proofs.Tools.{handed-on}
use Rattle.model.specs.Results.{passed}
use Rattle.model.proofs.Numbers.{passed-zero, failed-some, failed-with}
use Rattle.table_laws.proofs.Header.{header-number-iff}
use Rattle.sentinels.proofs.Refusing.{rest-number, header-number, passed-on}
use Rattle.sentinels.proofs.refusal_any.Goals as goal

pub returns-in_err-header : goal.returns-in_err-header
returns-in_err-header c =
    let e = sym c.header.ensures ∙ c.in_err-header.was in
    let z = failed-some _ e in
    rw (handed-on c.from_residual.ensures.1) (passed-on _ z (failed-with _ e) (header-number c.args.words c.args.table.now z))

pub fits-requires : goal.fits-requires
fits-requires c = (header-number-iff _).0 (passed-zero _ (sym c.header.ensures ∙ c.in_ok-header.was))

pub returns : goal.returns
returns c =
    let h = (header-number-iff _).0 (passed-zero _ (sym c.header.ensures ∙ c.in_ok-header.was)) in
    c.fits.ensures ∙ ap passed (sym (rest-number _ c.args.words c.args.table.now h refl))
