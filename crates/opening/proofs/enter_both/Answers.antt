-- `opening::enter_both` meets its contract.
use Rattle.opening.proofs.Marking.{all-marked}
use Rattle.opening.proofs.Entering.{all-entered}
use Rattle.opening.proofs.enter_both.Goals as goal

pub returns : goal.returns
returns c = let s = c.requires.table_value in let e = c.enter_tree.ensures in let f = c.enter_tree-2.ensures in
    record {
      marks_after = all-marked _ s _ _ c.word_at.ensures c.word_at-2.ensures _ _ _ e.marks_after f.marks_after;
      cells_after = all-entered _ s _ _ c.word_at.ensures c.word_at-2.ensures _ _ _ e.cells_after f.cells_after;
    }
