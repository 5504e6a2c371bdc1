-- `search::next_from` meets its contract. The loop keeps that from the leaf that is read the same is found as from the first one.
use Prim.Native.Nat.{◌-◌}
use Rattle.model.specs.Table.{nodes}
use Rattle.model.specs.Slots.{view}
use Rattle.model.specs.Search.{next_from}
use Rattle.search.proofs.Following.{Turn}
use Rattle.search.proofs.next_from.Given as goal

abbrev pub invariant-loop-entered : goal.invariant-loop-entered
invariant-loop-entered l = Turn l.table l.key l.x (nodes l.table - l.entered) (next_from (view l.table) (nodes l.table) l.leaf l.key)
