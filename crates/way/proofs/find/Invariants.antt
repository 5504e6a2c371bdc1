-- `way::find` meets its contract. The loop keeps that the nodes so far and the way from node n on are the path (`Walking`).
use Prim.Native.Nat.{◌-◌}
use Rattle.way.proofs.Walking.{Walking}
use Rattle.way.proofs.find.Given as goal

abbrev pub invariant-loop-i : goal.invariant-loop-i
invariant-loop-i l = Walking l.marks l.table l.root l.key l.top (l.top - l.i) l.run l.i l.n l.nodes
