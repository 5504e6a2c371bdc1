-- `gather::gather_nodes` meets its contract.
use Rattle.std.proofs.Common.{◌≤◌, length}
use Rattle.model.specs.Salvage.{gathered_along}
use Rattle.gather.proofs.Leaves.{Walking}
use Rattle.gather.specs.Held.{Along}
use Rattle.gather.proofs.gather_nodes.Given as goal

abbrev pub invariant-loop-n : goal.invariant-loop-n
invariant-loop-n l =
    (h : Along l.order l.initial.report) × (most : length (gathered_along l.table l.order).kept ≤ l.bound)
    × Walking l.table l.order l.bound l.initial.words l.initial.report h most l.words l.report l.p l.n-index
