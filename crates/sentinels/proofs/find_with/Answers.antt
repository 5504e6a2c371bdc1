-- `sentinels::find_with` meets its contract.
use mathlib.Core.Path.{refl, sym, ◌∙◌}
use Rattle.list_laws.proofs.Tools.{handed-on}
use Rattle.search.proofs.Standing.{got-none}
use Rattle.node.proofs.Roots.{found-there}
use Rattle.sentinels.proofs.Searching.{with-bad, with-wrong, with-lost, leaf-came, with-held, with-whole}
use Rattle.sentinels.proofs.find_with.Goals as goal

pub returns-in_err-root : goal.returns-in_err-root
returns-in_err-root c = let a = c.args in
    rw (handed-on c.from_residual.ensures.1)
    (with-bad a.collection a.words.now a.table.now a.key _ _ (sym c.find_root.ensures ∙ c.in_err-root.was) refl)

pub fits-requires : goal.fits-requires
fits-requires c = (found-there _ _ (sym c.find_root.ensures ∙ c.in_ok-root.was)).0

pub returns-in_err-fits : goal.returns-in_err-fits
returns-in_err-fits c = let a = c.args in
    rw (handed-on c.from_residual-in_err-fits.ensures.1)
    (with-wrong a.collection a.words.now a.table.now a.key (sym c.find_root.ensures ∙ c.in_ok-root.was)
    (sym c.fits.ensures ∙ c.in_err-fits.was))

pub leaf_for-requires : goal.leaf_for-requires
leaf_for-requires c = (found-there _ _ (sym c.find_root.ensures ∙ c.in_ok-root.was)).0

pub returns-in_err-leaf : goal.returns-in_err-leaf
returns-in_err-leaf c = let a = c.args in
    let u = got-none _ (sym c.ok_or.ensures.value ∙ c.in_err-leaf.was) in
    rw (handed-on c.from_residual-in_err-leaf.ensures.1)
    (u.1 ∙ with-lost a.collection a.words.now a.table.now a.key _ (sym c.find_root.ensures ∙ c.in_ok-root.was)
    (sym c.fits.ensures ∙ c.in_ok-fits.was) (sym c.leaf_for.ensures ∙ u.0))

pub words_of-requires-clause-le_n : goal.words_of-requires-clause-le_n
words_of-requires-clause-le_n c = let a = c.args in
    let f = sym c.find_root.ensures ∙ c.in_ok-root.was in
    let g = sym c.fits.ensures ∙ c.in_ok-fits.was in
    (leaf-came a.collection a.words.now a.table.now a.key _ f g c.leaf_for.ensures c.ok_or.ensures.value c.in_ok-leaf.was).fits.0

pub words_of-requires-clause-n_in_bounds : goal.words_of-requires-clause-n_in_bounds
words_of-requires-clause-n_in_bounds c = let a = c.args in
    let f = sym c.find_root.ensures ∙ c.in_ok-root.was in
    let g = sym c.fits.ensures ∙ c.in_ok-fits.was in
    (leaf-came a.collection a.words.now a.table.now a.key _ f g c.leaf_for.ensures c.ok_or.ensures.value c.in_ok-leaf.was).fits.1

pub on_line-requires : goal.on_line-requires
on_line-requires c = let a = c.args in
    let f = sym c.find_root.ensures ∙ c.in_ok-root.was in
    let g = sym c.fits.ensures ∙ c.in_ok-fits.was in
    (leaf-came a.collection a.words.now a.table.now a.key _ f g c.leaf_for.ensures c.ok_or.ensures.value c.in_ok-leaf.was).has

pub returns-in-Some : goal.returns-in-Some
returns-in-Some c = let a = c.args in
    let f = sym c.find_root.ensures ∙ c.in_ok-root.was in
    let g = sym c.fits.ensures ∙ c.in_ok-fits.was in
    let came = leaf-came a.collection a.words.now a.table.now a.key _ f g c.leaf_for.ensures c.ok_or.ensures.value c.in_ok-leaf.was in
    with-held a.collection a.words.now a.table.now a.key _ f g _ came.there _ _
    (rw c.words_of.ensures at (sym c.on_line.ensures ∙ c.in-Some.is)) c.found.ensures

pub whole_leaf-requires : goal.whole_leaf-requires
whole_leaf-requires c = let a = c.args in
    let f = sym c.find_root.ensures ∙ c.in_ok-root.was in
    let g = sym c.fits.ensures ∙ c.in_ok-fits.was in
    let came = leaf-came a.collection a.words.now a.table.now a.key _ f g c.leaf_for.ensures c.ok_or.ensures.value c.in_ok-leaf.was in
    record { table_value = (found-there _ _ f).0; m_value = came.on }

pub returns : goal.returns
returns c = let a = c.args in
    let f = sym c.find_root.ensures ∙ c.in_ok-root.was in
    let g = sym c.fits.ensures ∙ c.in_ok-fits.was in
    let came = leaf-came a.collection a.words.now a.table.now a.key _ f g c.leaf_for.ensures c.ok_or.ensures.value c.in_ok-leaf.was in
    with-whole a.collection a.words.now a.table.now a.key _ f g _ came.there _
    (rw c.words_of.ensures at (sym c.on_line.ensures ∙ c.in_default.is)) c.whole_leaf.ensures
