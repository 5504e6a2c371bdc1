-- `wear::write_pairs` meets its contract.
use Rattle.std.proofs.Common.{rules, arith}
use Rattle.wear.proofs.Running.{written-first, written-more, written-next, written-end}
use Rattle.wear.proofs.write_pairs.Goals as goal

pub loop-k-init : goal.loop-k-init
loop-k-init c = record {
  inside = c.seek-w.ensures.within;
  marked = c.seek-w.ensures.found;
  room = search rules;
  written = written-first _ _ _ _ c.seek-w.ensures c.requires.pairs_len;
}

pub loop-k-preserved : goal.loop-k-preserved
loop-k-preserved c = let l = c.loop-k in let more = written-more _ _ _ _ l.w l.invariant.written (omega arith) in record {
  inside = c.seek-w-in-loop-k.ensures.within;
  marked = c.seek-w-in-loop-k.ensures.found;
  room = search rules;
  written = written-next _ _ _ _ l.w l.invariant.written _ more (l.invariant.marked more) c.seek-end.ensures _ c.seek-w-in-loop-k.ensures;
}

pub returns : goal.returns
returns c = let l = c.loop-k in written-end _ _ _ _ l.w l.invariant.written (omega (arith, l.invariant.room))
