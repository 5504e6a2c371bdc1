-- `statistics::trailing_slots` meets its contract.
use Rattle.std.proofs.Common.{arith, rules}
use Rattle.model.specs.Statistics.{trailing_slots}
use Rattle.statistics.proofs.Lefts.{kept-shown}
use Rattle.statistics.proofs.trailing_slots.Goals as goal

pub overflow_sub-result : goal.overflow_sub-result
overflow_sub-result c = let a = c.args in
    omega (arith, c.kept_count.ensures, c.shown_count-shown.ensures, kept-shown a.table.now a.n)

pub returns : goal.returns
unfolding trailing_slots
returns c = search rules
