-- `shift::Opened::close_gap` meets its contract. The loop's invariant: the moves from slot i + 1 on are left, and lead to what all of them
-- lead to.
use Rattle.orders.specs.Desk.{of, stored_all}
use Rattle.orders.proofs.Rest.{Rest}
use Rattle.shift.specs.Stores.{gap_closed}
use Rattle.shift.proofs.Shifting.{gap_left}
use Rattle.shift.proofs.Opened.close_gap.Given as goal

abbrev pub invariant-loop-i : goal.invariant-loop-i
invariant-loop-i l = record {
  left : Rest (gap_left l.self l.last l.i) l.initial.writer l.writer (stored_all (gap_closed l.self l.p) (of l.initial.writer));
}
