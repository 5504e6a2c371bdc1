-- `compare::Cursor::seek` meets its contract. The loop keeps the pairs but for the key.
use Rattle.std.proofs.Common.{arith, sym, ◌∙◌}
use Rattle.compare.proofs.Places.{no-pair, a-pair, leaf-follows, skip-key}
use Rattle.compare.proofs.Cursor.seek.Goals as goal

pub load-c-requires : goal.load-c-requires
load-c-requires c = let x = c.loop-c.c in
    let end = sym c.at_end.ensures ∙ c.if-at_end.true in
    record { count_le_at = no-pair x end; fact = leaf-follows x _ (sym c.goes_on.ensures ∙ c.loop-c-test.true) end }

pub past-c-requires : goal.past-c-requires
past-c-requires c = a-pair c.loop-c.c (sym c.at_end.ensures ∙ c.if-at_end.false)

pub loop-c-smaller : goal.loop-c-smaller
loop-c-smaller c = let here = a-pair c.loop-c.c (sym c.at_end.ensures ∙ c.if-at_end.false) in rw c.past-c.ensures (omega arith)

pub loop-c-preserved : goal.loop-c-preserved
loop-c-preserved c = let l = c.loop-c in
    let here = a-pair l.c (sym c.at_end.ensures ∙ c.if-at_end.false) in
    rw c.past-c.ensures (omega arith, skip-key _ _ l.c (sym c.goes_on.ensures ∙ c.loop-c-test.true) here ∙ l.invariant.1)
