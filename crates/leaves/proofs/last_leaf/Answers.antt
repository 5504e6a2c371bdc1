-- `leaves::last_leaf` meets its contract. The loop keeps the leaf that the last child leads to from the present node.
use Rattle.std.proofs.Common.{◌∙◌, arith}
use native.Mathlib.Numerals.{unary_clauses}
use Rattle.leaves.proofs.HitLaws.{last-below, last-here, last-down}
use Rattle.leaves.proofs.last_leaf.Goals as goal

pub loop-init : goal.loop-init
loop-init c = simp unary_clauses (last-below _ _ _ c.word-end.ensures)

pub loop-preserved : goal.loop-preserved
loop-preserved c = let l = c.loop in
    last-down c.args.table.now c.args.root l.n _ _ _ (omega arith) c.last_child-n.ensures ∙ l.invariant

pub returns : goal.returns
returns c = last-here _ _ _ _ (omega arith) c.loop.invariant
