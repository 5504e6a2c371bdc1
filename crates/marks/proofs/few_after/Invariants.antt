-- `marks::few_after` meets its contract. The loop keeps that the nodes that are left, and those that are passed, come to all of them.
use Rattle.std.proofs.Common.{◌≡◌, ◌+◌, ◌≤◌}
use Rattle.model.specs.Marks.{has}
use Rattle.marks.proofs.Rows.{rest_after}
use Rattle.marks.proofs.few_after.Given as goal

abbrev pub invariant-loop : goal.invariant-loop
invariant-loop l = (l.after ≤ 65535) × (rest_after (has l.marks) l.nodes l.node ≡ rest_after (has l.marks) l.nodes l.after + l.counter)
