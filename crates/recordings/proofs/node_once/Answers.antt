-- `recordings::node_once` meets its contract.
use Rattle.std.proofs.Common.{ap, List, ℕ, ◌+◌, ◌-◌}
use Rattle.model.specs.Table.{nodes}
use Rattle.model.specs.Slots.{view}
use Rattle.recordings.specs.Marked.{own_numbers}
use Rattle.recordings.specs.Once.{once_before}
use Rattle.recordings.proofs.OnceLaws.{none-there}
use Rattle.recordings.proofs.node_once.Goals as goal

pub returns-in_default : goal.returns-in_default
unfolding once_before
returns-in_default c = let a = c.args in
    ap (λ (xs : List ℕ). once_before xs (own_numbers (view a.table.now) a.marks.now (a.n + 1) (nodes a.table.now + 1 - (a.n + 1))))
    (none-there _ _ c.ways.ensures.numbers c.in_default.is)
