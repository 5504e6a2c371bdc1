-- `reach::first_unreached` meets its contract.
use Rattle.std.proofs.Common.{◌+◌, ◌<◌, sym, ◌∙◌, arith}
use Rattle.model.specs.Summary.{unmarked}
use Rattle.marks.proofs.Rows.{first-is}
use Rattle.reach.proofs.Unreached.{first-none, first-here}
use Rattle.reach.proofs.Marking.{put-taken}
use Rattle.reach.proofs.Passing.{look-none, look-free, same-here, same-after, none-more}
use Rattle.reach.proofs.first_unreached.Goals as goal

pub returns-then-free-eq0 : goal.returns-then-free-eq0
unfolding unmarked
returns-then-free-eq0 c = let l = c.loop.invariant in
    let p = none-more _ _ _ _ _ l.marked.1 c.first_free-free.ensures c.requires.table_value c.if-free-eq0.true in
    record { value = p.0 ∙ l.first; marks_after = p.1 ∙ l.rest; marked_2 = l.marked }

pub returns-then-not-is_taken : goal.returns-then-not-is_taken
unfolding unmarked
returns-then-not-is_taken c = let l = c.loop.invariant in
    let s = first-is _ _ _ _ c.first_free-free.ensures c.if-free-eq0.false in
    let p = same-here _ _ _ _ _ l.marked.1 c.first_free-free.ensures c.if-free-eq0.false in
    let free = sym c.is_taken.ensures ∙ c.if-not-is_taken.true in
    record {
      value = sym (first-here _ _ _ s.within free) ∙ p.0 ∙ l.first;
      marks_after = look-free _ _ _ _ s.within free ∙ p.1 ∙ l.rest;
      marked_2 = l.marked;
    }

pub put-requires : goal.put-requires
unfolding unmarked
put-requires c = let l = c.loop.invariant in
    omega (arith, l.marked.0, (first-is _ _ _ _ c.first_free-free.ensures c.if-free-eq0.false).within)

pub overflow_add-n : goal.overflow_add-n
unfolding unmarked
overflow_add-n c = let l = c.loop.invariant in
    omega (arith, (first-is _ _ _ _ c.first_free-free.ensures c.if-free-eq0.false).within)

pub loop-preserved : goal.loop-preserved
unfolding unmarked
loop-preserved c = let l = c.loop.invariant in
    let s = first-is _ _ _ _ c.first_free-free.ensures c.if-free-eq0.false in
    let taken = sym c.is_taken.ensures ∙ c.if-not-is_taken.false in
    let p = same-after _ _ _ _ _ l.marked.1 c.first_free-free.ensures c.if-free-eq0.false taken _ c.put.ensures in
    record {
      ahead = omega (arith, s.no-less, l.ahead);
      first = p.0 ∙ l.first;
      marked = (omega (arith, c.put.auto.words, l.marked.0), rw c.put.ensures (put-taken _ _ _ l.marked.1 taken));
      rest = p.1 ∙ l.rest;
    }

pub returns : goal.returns
returns c = let l = c.loop.invariant in record {
  value = sym (first-none _ _ _ (omega (arith, l.ahead))) ∙ l.first;
  marks_after = look-none _ _ _ _ (omega (arith, l.ahead)) ∙ l.rest;
  marked_2 = l.marked;
}

pub returns-else-not-is_taken : goal.returns-else-not-is_taken
unfolding unmarked
returns-else-not-is_taken c = let l = c.loop.invariant in
    let s = first-is _ _ _ _ c.first_free-free.ensures c.if-free-eq0.false in
    let taken = sym c.is_taken.ensures ∙ c.if-not-is_taken.false in
    let p = same-after _ _ _ _ _ l.marked.1 c.first_free-free.ensures c.if-free-eq0.false taken _ c.put.ensures in
    let past : c.args.last < c.first_free-free.result + 1 = omega (arith, s.no-less, l.ahead) in
    record {
      value = sym (first-none _ _ _ past) ∙ p.0 ∙ l.first;
      marks_after = look-none _ _ _ _ past ∙ p.1 ∙ l.rest;
      marked_2 = (omega (arith, c.put.auto.words, l.marked.0), rw c.put.ensures (put-taken _ _ _ l.marked.1 taken));
    }
