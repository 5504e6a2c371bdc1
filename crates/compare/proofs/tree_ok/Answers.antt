-- `compare::tree_ok` meets its contract.
use Rattle.std.proofs.Common.{sym, ◌∙◌, inl, inr, true≢false}
use Rattle.compare.proofs.Maps.{same-pointer, other-pointer}
use Rattle.compare.proofs.Trees.{tree-fixed, tree-other, tree-same}
use Rattle.compare.proofs.tree_ok.Goals as goal
use Rattle.compare.proofs.tree_ok.Goals.{then-eq, else-eq+then-own, else-eq+else-own}

pub returns-then-fits : goal.returns-then-fits
returns-then-fits c = let a = c.args in
    tree-same a.image.now a.table.now a.top a.root _ _ _ c.requires.top_value c.requires.root_value _ _ c.held-after.ensures
    c.held-before.ensures _ c.same_but.ensures
    (elim c.if-eq.branch [
      | then-eq w ↦ inl (same-pointer _ _ (sym c.eq.ensures ∙ w.if-eq.true))
      | else-eq+then-own w ↦ inr (w.if-own.true, same-pointer _ _ (sym w.eq-then-own.ensures ∙ sym w.fits-is ∙ c.if-fits.true))
      | else-eq+else-own w ↦ absurd (true≢false (sym c.if-fits.true ∙ w.fits-is ∙ w.if-own.false))
    ])

pub returns-else-fits : goal.returns-else-fits
returns-else-fits c = let a = c.args in
    c.if-fits.false ∙ elim c.if-eq.branch [
      | then-eq w ↦ absurd (true≢false (sym w.if-eq.true ∙ sym w.fits-is ∙ c.if-fits.false))
      | else-eq+then-own w ↦ tree-other a.image.now a.table.now a.top a.root _ _ _ c.requires.top_value c.requires.root_value _ _
          c.held-after.ensures c.held-before.ensures (other-pointer _ _ (sym c.eq.ensures ∙ w.if-eq.false))
          (other-pointer _ _ (sym w.eq-then-own.ensures ∙ sym w.fits-is ∙ c.if-fits.false))
      | else-eq+else-own w ↦ tree-fixed a.image.now a.table.now a.top a.root _ _ _ c.requires.top_value c.requires.root_value _ _
          c.held-after.ensures c.held-before.ensures (other-pointer _ _ (sym c.eq.ensures ∙ w.if-eq.false)) w.if-own.false
    ]
