-- `wear::write_pairs` meets its contract.
use Rattle.std.proofs.Common.{◌≡◌, ◌<◌, ◌≤◌, true, length}
use Rattle.bits.specs.Bits.{has}
use Rattle.wear.proofs.Running.{Written}
use Rattle.wear.proofs.write_pairs.Given as goal

abbrev pub invariant-loop-k : goal.invariant-loop-k
invariant-loop-k l = record {
  inside : l.w ≤ l.len;
  marked : l.w < l.len → has l.marks l.w ≡ true;
  room : length l.pairs ≡ length l.initial.pairs;
  written : Written (has l.marks) l.len l.pairs l.k l.w;
}
