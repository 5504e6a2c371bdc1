-- `opening::enter_tree` meets its contract.
use Rattle.opening.proofs.Marking.{rows-marked}
use Rattle.opening.proofs.enter_tree.Goals as goal

pub returns-clause-marks_after : goal.returns-clause-marks_after
returns-clause-marks_after c = rows-marked _ _ _ _ c.mark_above.ensures c.enter_leaves.ensures.marks_after
