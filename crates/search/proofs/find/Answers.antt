-- `search::find` meets its contract.
use mathlib.Core.Path.{refl, sym, ◌∙◌}
use Rattle.list_laws.proofs.Tools.{handed-on}
use Rattle.node.proofs.Roots.{found-ok, found-there}
use Rattle.search.proofs.Standing.{root-refused, got-none, got-some, answered-lost, stood-on, answered}
use Rattle.search.proofs.find.Goals as goal

pub returns-in_err-root : goal.returns-in_err-root
returns-in_err-root c = rw (handed-on c.from_residual.ensures.1) (root-refused _ _ _ _ _ (sym c.find_root.ensures ∙ c.in_err-root.was) refl)

pub descend-requires : goal.descend-requires
descend-requires c = (found-there _ _ (sym c.find_root.ensures ∙ c.in_ok-root.was)).0

pub returns-in_err-s : goal.returns-in_err-s
returns-in_err-s c =
    let f = found-ok _ _ (sym c.find_root.ensures ∙ c.in_ok-root.was) in
    let u = got-none _ (sym c.ok_or.ensures.value ∙ c.in_err-s.was) in
    rw (handed-on c.from_residual-in_err-s.ensures.1) (u.1 ∙ answered-lost _ _ _ _ f.0 f.1 (sym c.descend.ensures ∙ u.0))

pub answer-requires-clause-table_value : goal.answer-requires-clause-table_value
answer-requires-clause-table_value c = (found-there _ _ (sym c.find_root.ensures ∙ c.in_ok-root.was)).0

pub answer-requires-clause-m_value : goal.answer-requires-clause-m_value
answer-requires-clause-m_value c =
    let f = found-ok _ _ (sym c.find_root.ensures ∙ c.in_ok-root.was) in
    stood-on _ _ _ _ f.0 f.1 _ (sym c.descend.ensures ∙ got-some _ (sym c.ok_or.ensures.value ∙ c.in_ok-s.was))

pub returns : goal.returns
returns c =
    let f = found-ok _ _ (sym c.find_root.ensures ∙ c.in_ok-root.was) in
    answered _ _ _ _ f.0 f.1 _ (sym c.descend.ensures ∙ got-some _ (sym c.ok_or.ensures.value ∙ c.in_ok-s.was)) _ c.answer.ensures.value
