-- `keeping::mark_node` meets its contract.
use Rattle.std.proofs.Common.{◌≡◌, get_or}
use Rattle.model.specs.Table.{node}
use Rattle.keeping.proofs.Nodes.{Looking}
use Rattle.keeping.proofs.mark_node.Given as goal

abbrev pub invariant-loop-i : goal.invariant-loop-i
invariant-loop-i l =
    (q : l.x ≡ node l.entered.table.now (get_or l.entered.order.now l.j 0))
    × Looking l.entered.table.now l.entered.order.now l.j l.x q l.initial.marks l.marks l.kept l.before l.i
