-- `keeping::keeps` meets its contract.
use mathlib.Core.Path.{refl, sym, ◌∙◌}
use Rattle.keeping.proofs.Marks.{keeps-range, keeps-else}
use Rattle.keeping.proofs.keeps.Goals as goal

pub returns-then-ok : goal.returns-then-ok
returns-then-ok c = keeps-else _ _ _ (sym c.ok.ensures ∙ c.if-ok.true) _ refl _ c.clashes.ensures

pub returns-else-ok : goal.returns-else-ok
returns-else-ok c = c.if-ok.false ∙ keeps-range _ _ _ (sym c.ok.ensures ∙ c.if-ok.false)
