-- What an iterator along the siblings has left.
use Rattle.std.specs.Prelude.{List, ℕ}
use Rattle.model.specs.Slots.{view}
use Rattle.walk_laws.specs.Chain.{along}
use Rattle.leaves.specs.declared.siblings.Siblings.{Siblings}

abbrev pub siblings_left : Siblings → List ℕ
siblings_left s = along (view s.table.now) s.left s.next
