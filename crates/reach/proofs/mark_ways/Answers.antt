-- `reach::mark_ways` meets its contract. The loop keeps what the marks come to with the ways that are left.
use Rattle.std.proofs.Common.{◌≤◌, length, ap, ◌∙◌, arith}
use Rattle.reach.specs.Marks.{put_all}
use Rattle.reach.proofs.Marking.{pointers-taken, put_all-more, put_all-end}
use Rattle.reach.proofs.mark_ways.Goals as goal

pub loop-n-preserved : goal.loop-n-preserved
loop-n-preserved c = ap (put_all _) c.mark.ensures ∙ put_all-more _ _ _ c.loop-n-test.true ∙ c.loop-n.invariant

pub returns : goal.returns
returns c = let w = c.args.w in let h : w.count ≤ length w.pointers = omega arith in
    rw (pointers-taken w h) (put_all-end _ _ _ c.loop-n-test.false ∙ c.loop-n.invariant)
