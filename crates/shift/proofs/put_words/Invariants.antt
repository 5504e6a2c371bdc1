-- `shift::put_words` meets its contract. The loop's invariant: the words from j on are left, and lead to what all of them lead to.
use Rattle.std.proofs.Common.{◌+◌, drop}
use Rattle.orders.specs.Desk.{of, stored_all}
use Rattle.orders.proofs.Rest.{Rest}
use Rattle.model.specs.Writes.{put_all}
use Rattle.shift.proofs.put_words.Given as goal

abbrev pub invariant-loop-j : goal.invariant-loop-j
invariant-loop-j l = record {
  left : Rest (put_all (l.w + l.j) (drop l.j l.words)) l.initial.writer l.writer (stored_all (put_all l.w l.words) (of l.initial.writer));
}
