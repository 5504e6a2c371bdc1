-- `compare::same_but` meets its contract. The loop keeps what is left to compare.
use Rattle.std.proofs.Common.{◌≡◌, false, sym, ap, ◌∙◌, true≢false, arith}
use Rattle.compare.specs.Cursors.{distance, at_end}
use Rattle.compare.proofs.Places.{no-pair, a-pair, compared-end, compared-differ, compared-both, compared-next, compared-all}
use Rattle.compare.proofs.same_but.Goals as goal
use Rattle.compare.proofs.same_but.Goals.{then-loop-a-test+else-same_pair, else-loop-a-test}

pub loop-a-init : goal.loop-a-init
loop-a-init c = record {
  first = c.seek-a.ensures.stops;
  second = c.seek-b.ensures.stops;
  comes-to = compared-all _ _ _ _ _ _ _ c.seek-a.ensures.result_value c.start.ensures c.seek-b.ensures.result_value c.start-2.ensures;
}

pub same_pair-requires : goal.same_pair-requires
same_pair-requires c = a-pair c.loop-a.a (sym c.at_end.ensures ∙ c.loop-a-test.true)

pub past-requires : goal.past-requires
past-requires c = a-pair c.loop-a.a (sym c.at_end.ensures ∙ c.loop-a-test.true)

pub past-requires-in-loop-a : goal.past-requires-in-loop-a
past-requires-in-loop-a c =
    compared-both c.loop-a.invariant (a-pair c.loop-a.a (sym c.at_end.ensures ∙ c.loop-a-test.true)) _
    c.same_pair.ensures c.if-same_pair.true

pub loop-a-smaller : goal.loop-a-smaller
loop-a-smaller c =
    omega (
      arith,
      c.seek-a-in-loop-a.ensures.nearer,
      ap distance c.past.ensures,
      a-pair c.loop-a.a (sym c.at_end.ensures ∙ c.loop-a-test.true),
    )

pub loop-a-preserved : goal.loop-a-preserved
loop-a-preserved c = let a = c.seek-a-in-loop-a.ensures in
    let b = c.seek-b-in-loop-a.ensures in
    record {
      first = a.stops;
      second = b.stops;
      comes-to =
          compared-next c.loop-a.invariant (a-pair c.loop-a.a (sym c.at_end.ensures ∙ c.loop-a-test.true)) _
          c.same_pair.ensures c.if-same_pair.true _ _
          (rw c.past.ensures at a.result_value) (rw c.past-in-loop-a.ensures at b.result_value);
    }

pub returns-then-at_end : goal.returns-then-at_end
returns-then-at_end c =
    c.at_end-then-at_end.ensures ∙ compared-end c.loop-a.invariant (no-pair c.loop-a.a (sym c.at_end-2.ensures ∙ c.if-at_end.true))

pub returns-else-at_end : goal.returns-else-at_end
returns-else-at_end c =
    let more : at_end c.loop-a.a ≡ false = sym c.at_end-2.ensures ∙ c.if-at_end.false in
    c.if-at_end.false ∙ elim c.loop-a-test.branch [
      | then-loop-a-test+else-same_pair w ↦ compared-differ c.loop-a.invariant (a-pair c.loop-a.a more) _
          w.same_pair.ensures w.if-same_pair.false
      | else-loop-a-test w ↦ absurd (true≢false (sym w.loop-a-test.false ∙ c.at_end.ensures ∙ more))
    ]
