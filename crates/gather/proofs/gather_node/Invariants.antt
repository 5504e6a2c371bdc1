-- `gather::gather_node` meets its contract.
use Rattle.std.proofs.Common.{◌≡◌, ◌≤◌, length}
use Rattle.model.specs.Table.{node}
use Rattle.model.specs.Salvage.{gather_slots, collected}
use Rattle.gather.proofs.Leaves.{Collecting}
use Rattle.gather.specs.Held.{held, Room}
use Rattle.gather.proofs.gather_node.Given as goal

abbrev pub invariant-loop-i : goal.invariant-loop-i
invariant-loop-i l = (q : l.x ≡ node l.table l.n) × (room : Room l.initial.report l.initial.p 12)
    × (most : length (gather_slots l.n (collected l.table l.n) (held l.initial.words l.bound l.initial.report l.initial.p)).kept ≤ l.bound)
    × Collecting l.table l.n l.x q l.bound l.initial.words l.initial.report l.initial.p room most l.words l.report l.p l.before l.i
