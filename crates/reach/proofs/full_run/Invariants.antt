-- `reach::full_run` meets its contract. The loop's invariant: the running count over the rest of the path is the run.
use Rattle.std.proofs.Common.{◌≡◌, ◌-◌, ◌≤◌}
use Rattle.model.specs.Slots.{view_from, view}
use Rattle.model.specs.Search.{path_from, path}
use Rattle.reach.specs.Runs.{full_in, end_run, run_from}
use Rattle.reach.proofs.full_run.Given as goal

abbrev pub invariant-loop : goal.invariant-loop
invariant-loop l = record {
  top_bound : l.top ≤ 15;
  count_bound : l.count ≤ l.counter;
  rest : run_from (full_in (view l.table) l.parent) l.count (path_from (view l.table) (l.top - l.counter) l.n l.key)
      ≡ end_run (full_in (view_from l.table l.root) l.parent) (path (view_from l.table l.root) l.key);
}
