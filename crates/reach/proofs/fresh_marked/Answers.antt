-- `reach::fresh_marked` meets its contract.
use Rattle.std.proofs.Common.{arith}
use Rattle.reach.proofs.Members.{sound-words, sound-few}
use Rattle.reach.proofs.Unreached.{fresh-after, fresh-round}
use Rattle.reach.proofs.Passing.{round-found, round-on}
use Rattle.reach.proofs.fresh_marked.Goals as goal

pub overflow_add-a : goal.overflow_add-a
overflow_add-a c = omega (arith, sound-few _ c.requires.table_value)

pub bounds-table-2 : goal.bounds-table-2
bounds-table-2 c = omega (arith, sound-words _ c.requires.table_value)

pub first_unreached-n-requires-clause-last_bound : goal.first_unreached-n-requires-clause-last_bound
first_unreached-n-requires-clause-last_bound c = sound-few _ c.requires.table_value

pub returns-then-n-ne0-clause-value : goal.returns-then-n-ne0-clause-value
returns-then-n-ne0-clause-value c = fresh-after _ _ _ c.first_unreached-n.ensures.value c.if-n-ne0.true

pub returns-then-n-ne0-clause-marks_after : goal.returns-then-n-ne0-clause-marks_after
returns-then-n-ne0-clause-marks_after c =
    round-found _ _ _ _ _ c.mark_once.ensures.marks_after c.first_unreached-n.ensures.marks_after _
    c.first_unreached-n.ensures.value c.if-n-ne0.true

pub first_unreached-requires-clause-last_bound : goal.first_unreached-requires-clause-last_bound
first_unreached-requires-clause-last_bound c = omega (arith, sound-few _ c.requires.table_value)

pub returns-clause-value : goal.returns-clause-value
returns-clause-value c =
    fresh-round _ _ _ _ c.first_unreached-n.ensures.value c.if-n-ne0.false (rw c.saturating_sub.ensures at c.first_unreached.ensures.value)

pub returns-clause-marks_after : goal.returns-clause-marks_after
returns-clause-marks_after c =
    round-on _ _ _ _ _ c.mark_once.ensures.marks_after c.first_unreached-n.ensures.marks_after _
    c.first_unreached-n.ensures.value c.if-n-ne0.false _
    (rw c.saturating_sub.ensures at c.first_unreached.ensures.marks_after)
