-- `pack::needed` meets its contract.
use Rattle.std.proofs.Common.{◌≡◌, ◌+◌, ◌-◌, ◌*◌, ◌≤◌}
use Rattle.pack_laws.specs.Needed.{nodes_above, nodes_needed}
use Rattle.pack.proofs.needed.Given as goal

abbrev pub invariant-loop : goal.invariant-loop
invariant-loop l = (l.row ≤ 16777216) × (l.total ≤ (1 + l.counter) * 16777216)
    × (l.total + nodes_above (15 - l.counter) l.row ≡ nodes_needed l.pairs)
