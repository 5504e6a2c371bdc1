-- `sentinels::refusal` meets its contract.
use mathlib.Core.Path.{ap, sym, ◌∙◌}
use Rattle.list_laws.proofs.Tools.{handed-on}
use Rattle.model.specs.Results.{passed}
use Rattle.node.proofs.Roots.{found-there, found-err}
use Rattle.sentinels.proofs.Refusing.{rest-number, collection-number, passed-on}
use Rattle.sentinels.proofs.refusal.Goals as goal

pub returns-in_err-find_root : goal.returns-in_err-find_root
returns-in_err-find_root c =
    let a = c.args in
    let f = found-err a.collection a.table.now (sym c.find_root.ensures ∙ c.in_err-find_root.was) in
    rw (handed-on c.from_residual.ensures.1) (passed-on _ f.0 f.1 (collection-number a.collection a.words a.table.now f.0))

pub fits-requires : goal.fits-requires
fits-requires c = (found-there _ _ (sym c.find_root.ensures ∙ c.in_ok-find_root.was)).0

pub returns : goal.returns
returns c =
    let u = found-there _ _ (sym c.find_root.ensures ∙ c.in_ok-find_root.was) in
    c.fits.ensures ∙ ap passed (sym (rest-number _ c.args.words c.args.table.now u.0 u.1))
