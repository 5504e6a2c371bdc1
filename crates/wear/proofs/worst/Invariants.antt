-- `wear::worst` meets its contract. The loop keeps the most of the lines after those that are left.
use Rattle.std.proofs.Common.{◌≡◌}
use Rattle.std.specs.Slice.Iter.{iter_rest}
use Rattle.std.specs.Iterator.Adapters.{enumerate_source, enumerate_count, rev_source}
use Rattle.wear.proofs.Tallying.{MostAfter}
use Rattle.wear.proofs.worst.Given as goal

abbrev pub invariant-loop-i : goal.invariant-loop-i
invariant-loop-i l = let e = rev_source l.i-iterator in (enumerate_count e ≡ 0) × MostAfter l.lines (iter_rest (enumerate_source e)) l.m
