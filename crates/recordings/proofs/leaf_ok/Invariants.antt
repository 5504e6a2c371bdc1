-- `recordings::leaf_ok` meets its contract. The loop keeps that the slots from i on answer as all of them do.
use Rattle.std.proofs.Common.{◌≡◌}
use Rattle.model.specs.SoundTest.{all, pair_ok}
use Rattle.slots.specs.Scan.{shown_from, kept_of}
use Rattle.recordings.specs.Marked.{kept_in}
use Rattle.recordings.proofs.leaf_ok.Given as goal

abbrev pub invariant-loop-i : goal.invariant-loop-i
invariant-loop-i l = all pair_ok (kept_of l.x.node.sibling l.x.bound (shown_from l.before l.x.node.slots l.i)) ≡ all pair_ok (kept_in l.x)
