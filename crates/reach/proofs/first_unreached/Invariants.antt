-- `reach::first_unreached` meets its contract. The loop's invariant: the first from n on is the first of all, what is marked is reached,
-- and
-- the nodes left to look at bring the marks to what all bring them to.
use Rattle.std.proofs.Common.{◌≡◌, ◌≤◌}
use Rattle.reach.specs.Marks.{Marked}
use Rattle.reach.proofs.Unreached.{first_from}
use Rattle.reach.proofs.Passing.{looked}
use Rattle.reach.proofs.first_unreached.Given as goal

abbrev pub invariant-loop : goal.invariant-loop
invariant-loop l = record {
  ahead : l.counter ≤ l.n;
  first : first_from l.table l.n l.last ≡ first_from l.table l.first l.last;
  marked : Marked l.table l.marks;
  rest : looked l.table l.n l.last l.marks ≡ looked l.table l.first l.last l.initial.marks;
}
