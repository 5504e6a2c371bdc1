-- `node::find_root` meets its contract.
use mathlib.Core.Path.{sym, ◌∙◌}
use Rattle.list_laws.proofs.Tools.{handed-on}
use Rattle.model.specs.declared.Refusal.TheVariants.{NoCollection}
use Rattle.model.proofs.Numbers.{passed-zero, failed-some, failed-with, refused-by}
use Rattle.node.proofs.Roots.{root-found, root-no-table, root-no-collection}
use Rattle.node.proofs.find_root.Goals as goal

pub returns-then-root-ne0 : goal.returns-then-root-ne0
returns-then-root-ne0 c = root-found _ _ _ c.root-root.ensures c.if-root-ne0.true

pub returns-in_err-header : goal.returns-in_err-header
returns-in_err-header c =
    let e = sym c.header.ensures ∙ c.in_err-header.was in
    rw (handed-on c.from_residual.ensures.1) (sym (failed-with _ e) ∙ root-no-table _ _ (failed-some _ e))

pub returns : goal.returns
returns c =
    sym (refused-by NoCollection)
    ∙ root-no-collection _ _ _ c.root-root.ensures c.if-root-ne0.false (passed-zero _ (sym c.header.ensures ∙ c.in_ok-header.was))
