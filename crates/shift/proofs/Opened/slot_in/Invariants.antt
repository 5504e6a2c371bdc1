-- `shift::Opened::slot_in` meets its contract. The loop's invariant: the moves below slot i are left, and lead to what the whole shift
-- leads to.
use Rattle.std.proofs.Common.{◌≤◌, length}
use Rattle.orders.specs.Desk.{of, stored_all}
use Rattle.orders.proofs.Rest.{Rest}
use Rattle.shift.specs.Stores.{held, slot_in}
use Rattle.shift.proofs.Shifting.{in_left}
use Rattle.shift.proofs.Opened.slot_in.Given as goal

abbrev pub invariant-loop-i : goal.invariant-loop-i
invariant-loop-i l = record {
  used : l.i ≤ length (held l.self);
  left : Rest (in_left l.self l.k l.x (record { at = l.at; before = l.before }) l.i) l.fn.writer l.writer
      (stored_all (slot_in l.self l.k l.x) (of l.fn.writer));
}
