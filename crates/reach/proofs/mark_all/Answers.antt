-- `reach::mark_all` meets its contract.
use native.Mathlib.Omega.{arith}
use Rattle.reach.proofs.Members.{sound-words}
use Rattle.reach.proofs.Parents.{all-marked}
use Rattle.reach.proofs.mark_all.Goals as goal

pub bounds-table-1 : goal.bounds-table-1
bounds-table-1 c = omega (arith, sound-words _ c.requires)

pub bounds-table-3 : goal.bounds-table-3
bounds-table-3 c = omega (arith, sound-words _ c.requires)

pub returns : goal.returns
returns c = all-marked _ c.requires _ _ c.first_parent-first.ensures c.first_parent-second.ensures _ _ _
    c.mark_along.ensures c.mark_along-2.ensures
