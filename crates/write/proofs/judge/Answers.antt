-- `write::judge` meets its contract.
use mathlib.Core.Path.{sym, ◌∙◌}
use Rattle.list_laws.proofs.Tools.{handed-on}
use Rattle.model.proofs.Numbers.{done-ok}
use Rattle.node.specs.Word.{root_in, number_in, found_root}
use Rattle.node.proofs.Roots.{found-err}
use Rattle.write.proofs.Judging.{wrong-collection, right-collection, judged-rest}
use Rattle.write.proofs.judge.Goals as goal

pub returns-in_err-find_root : goal.returns-in_err-find_root
returns-in_err-find_root c =
    let a = c.args in
    let f = found-err a.collection a.table.now (sym c.find_root.ensures ∙ c.in_err-find_root.was) in
    rw (handed-on c.from_residual.ensures.1) (sym f.1 ∙ wrong-collection _ _ _ _ f.0)

pub judge_rest-requires : goal.judge_rest-requires
unfolding found_root
judge_rest-requires c =
    let a = c.args in
    (right-collection 0 0 _ _
    (done-ok (number_in a.collection a.table.now) (root_in a.collection a.table.now)
    (sym c.find_root.ensures ∙ c.in_ok-find_root.was)).0).0

pub returns : goal.returns
unfolding found_root
returns c =
    let a = c.args in
    judged-rest _ _ _ _ (done-ok (number_in a.collection a.table.now) (root_in a.collection a.table.now)
    (sym c.find_root.ensures ∙ c.in_ok-find_root.was)).0 _ c.judge_rest.ensures
