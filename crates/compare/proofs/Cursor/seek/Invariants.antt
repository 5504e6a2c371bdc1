-- `compare::Cursor::seek` meets its contract. The loop keeps the pairs but for the key.
use Rattle.std.proofs.Common.{◌≡◌, ◌≤◌}
use Rattle.model.specs.Slots.{view}
use Rattle.model.specs.Ledger.{leave}
use Rattle.compare.specs.Cursors.{pairs_at, distance}
use Rattle.compare.proofs.Cursor.seek.Given as goal

abbrev pub invariant-loop-c : goal.invariant-loop-c
invariant-loop-c l = (distance l.c ≤ distance l.fn.self)
    × (leave l.key (pairs_at (view l.table) l.c) ≡ leave l.key (pairs_at (view l.table) l.fn.self))

abbrev pub decreases-loop-c : goal.decreases-loop-c
decreases-loop-c l = distance l.c
