-- `insert_many::take_all` meets its contract. The loop's invariant: from here the batch comes to what it comes to from the start, and the
-- recordings of the pairs before the end are new; what is marked is reached.
use Rattle.std.proofs.Common.{refl, ◌∙◌, add-one, arith}
use Rattle.reach.proofs.Marking.{none-taken}
use Rattle.clear.proofs.Fresh.{none-new, later-new}
use Rattle.insert_many.proofs.Going.{ahead-start, ahead-all, new-next}
use Rattle.insert_many.proofs.take_all.Goals as goal

pub loop-i-init : goal.loop-i-init
loop-i-init c = let q = c.requires in record {
  counted = refl;
  taken-are = refl;
  fit = record { found = q.found; collection = q.table_value; dock-ok = q.dock_bound; inside = omega arith };
  same = ahead-start _ _ _ _ _ _ _ c.default.ensures;
  new = none-new _ _ _ _ (omega arith);
  marked = none-taken _;
}

pub new_end-end-requires : goal.new_end-end-requires
new_end-end-requires c = let h =
    c.loop-i.invariant in record
    { table_value = h.fit.found.is-sound; table_value_2 = h.fit.collection; i_in_bounds = omega arith; new = h.new }

pub is_known-known-requires : goal.is_known-known-requires
is_known-known-requires c = let h =
    c.loop-i.invariant in record
    { table_value = h.fit.found.is-sound; table_value_2 = h.fit.collection; i_in_bounds = omega arith; new = c.new_end-end.ensures.new_2 }

pub take_next-requires : goal.take_next-requires
take_next-requires c = let h = c.loop-i.invariant in
    record {
      fit = h.fit;
      taken_in_bounds = omega (arith, h.taken-are);
      known_value = rw h.taken-are c.is_known-known.ensures;
      marked = h.marked;
    }

pub returns-in-Err : goal.returns-in-Err
returns-in-Err c = rw c.answer_of.ensures (rw c.in-Err.is at c.take_next.ensures.table_after) ∙ c.loop-i.invariant.same

pub loop-i-preserved : goal.loop-i-preserved
loop-i-preserved c = let h = c.loop-i.invariant in let e = c.take_next.ensures in let g = rw c.in-Ok.is at e.gains in record {
  counted = h.counted;
  taken-are = omega (arith, h.taken-are, g.1);
  fit = g.0;
  same = rw c.in-Ok.is at e.table_after ∙ h.same;
  new = new-next _ _ _ _ _ (add-one _) (later-new _ _ _ _ c.new_end-end.ensures.new_2 (omega arith) _ (rw h.taken-are at g.2));
  marked = e.marked_2;
}

pub returns : goal.returns
returns c = let h = c.loop-i.invariant in rw c.answer_of-2.ensures
    (ahead-all _ _ _ _ _ _ (omega (arith, h.taken-are)) h.fit.inside) ∙ h.same
