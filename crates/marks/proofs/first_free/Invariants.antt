-- `marks::first_free` meets its contract. The loop keeps what the nodes from n on come to.
use Rattle.std.proofs.Common.{◌≡◌, ◌+◌, ◌-◌}
use Rattle.model.specs.Marks.{has}
use Rattle.marks.proofs.Rows.{first_from}
use Rattle.marks.proofs.first_free.Given as goal

abbrev pub invariant-loop-n : goal.invariant-loop-n
invariant-loop-n l = first_from (has l.marks) l.n l.last ≡ first_from (has l.marks) l.first l.last

abbrev pub decreases-loop-n : goal.decreases-loop-n
decreases-loop-n l = l.last + 1 - l.n
