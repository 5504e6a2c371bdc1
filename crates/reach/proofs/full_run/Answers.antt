-- `reach::full_run` meets its contract. The loop's invariant: the running count over the rest of the path is the run.
use Rattle.std.proofs.Common.{◌≡◌, ◌+◌, ◌-◌, ap, ◌∙◌, arith}
use native.Mathlib.Numerals.{unary_clauses}
use Rattle.model.specs.Slots.{view}
use Rattle.reach.specs.Runs.{full_in, counted}
use Rattle.reach.proofs.Members.{sound-height}
use Rattle.reach.proofs.Running.{after-most, run-lower, run-last, run-top, run-read}
use Rattle.reach.proofs.full_run.Goals as goal

pub loop-init : goal.loop-init
loop-init c = record {
  top_bound = sound-height _ _ _ c.requires c.word-top.ensures;
  count_bound = omega arith;
  rest = simp unary_clauses (run-top _ _ _ _ _ c.word-top.ensures);
}

pub loop-preserved : goal.loop-preserved
loop-preserved c = let a = c.args in
    let after = c.run_after-count.ensures ∙ ap (counted c.loop.count) c.is_full.ensures in
    let less : c.word-top.result - (c.loop.counter + 1) ≡ c.word-top.result - c.loop.counter - 1 = omega arith in record {
      top_bound = c.loop.invariant.top_bound;
      count_bound = omega (arith, after, after-most (full_in (view a.table.now) a.parent) c.loop.count c.moved-m.result);
      rest = rw less (run-lower _ _ _ _ _ _ _ c.moved-m.ensures after _ _ (omega arith) c.down-n.ensures ∙ c.loop.invariant.rest);
    }

pub returns : goal.returns
returns c = run-read _ _ _ _ _ _ c.word-top.ensures
    (run-last _ _ _ _ _ _ _ c.moved-leaf.ensures (c.run_after-length.ensures ∙ ap (counted c.loop.count) c.is_full-2.ensures) _
    (omega arith) ∙ c.loop.invariant.rest)
