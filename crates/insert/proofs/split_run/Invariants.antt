-- `insert::split_run` meets its contract. The loop's invariant: the lowest l nodes of the run are left, ready to be split, and what is
-- marked is
-- reached.
use Rattle.model.specs.Writes.{splits}
use Rattle.two_laws.specs.Parts.{Ready}
use Rattle.reach.specs.Marks.{Marked}
use Rattle.orders.specs.Desk.{of, stored_all}
use Rattle.orders.proofs.Rest.{Rest}
use Rattle.insert.proofs.split_run.Given as goal

abbrev pub invariant-loop-l : goal.invariant-loop-l
invariant-loop-l l = record {
  marked : Marked l.writer.table.now l.marks;
  ready : Ready l.l l.x.collection l.writer.table.now l.x.key;
  left : Rest (splits l.x.collection l.l l.writer.table.now l.x.key) l.initial.writer l.writer
      (stored_all (splits l.x.collection l.count l.initial.writer.table.now l.x.key) (of l.initial.writer));
}
