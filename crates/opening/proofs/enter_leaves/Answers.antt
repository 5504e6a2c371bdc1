-- `opening::enter_leaves` meets its contract.
use Rattle.std.proofs.Common.{ap, refl, ◌∙◌}
use Rattle.model.specs.Marks.{put_each}
use Rattle.model.specs.Cells.{entered_all}
use Rattle.opening.proofs.Marking.{level-end, level-next, chain-marked}
use Rattle.opening.proofs.Entering.{leaves-end, leaves-next, chain-cells}
use Rattle.opening.proofs.enter_leaves.Goals as goal

pub loop-leaf-preserved : goal.loop-leaf-preserved
loop-leaf-preserved c = let a = c.args in (
  level-next _ _ _ _ _ c.in-Some.ensures.steps c.mark.ensures ∙ c.loop-leaf.invariant.0,
  leaves-next a.table.now a.collection _ _ _ _ _ c.in-Some.ensures.steps c.enter_leaf.ensures ∙ c.loop-leaf.invariant.1,
)

pub returns : goal.returns
returns c = let a = c.args in
    record {
      marks_after = level-end _ _ c.in-None.ensures.steps.0 ∙ c.loop-leaf.invariant.0
          ∙ ap (λ ns. put_each ns a.marks.now) (chain-marked a.table.now a.root _ _ c.first_leaf-first.ensures refl);
      cells_after = leaves-end a.table.now a.collection _ _ c.in-None.ensures.steps.0 ∙ c.loop-leaf.invariant.1
          ∙ ap (entered_all a.cells.now) (chain-cells a.table.now a.root a.collection _ _ c.first_leaf-first.ensures refl);
    }
