-- `reach::mark_ways` meets its contract. The loop keeps what the marks come to with the ways that are left.
use Rattle.std.proofs.Common.{◌≡◌, drop}
use Rattle.reach.specs.Marks.{put_all}
use Rattle.reach.proofs.mark_ways.Given as goal

abbrev pub invariant-loop-n : goal.invariant-loop-n
invariant-loop-n l = put_all (drop l.n-index l.n-items) l.marks ≡ put_all l.n-items l.initial.marks
