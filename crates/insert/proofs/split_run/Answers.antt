-- `insert::split_run` meets its contract. The loop's invariant: the lowest l nodes of the run are left, ready to be split, and what is
-- marked is
-- reached.
use native.Mathlib.Omega.{arith}
use Rattle.orders.proofs.Rest.{rest-start}
use Rattle.insert.proofs.Splitting.{next-splittable, next-room, next-ready, next-marked, next-rest, splits-done}
use Rattle.insert.proofs.split_run.Goals as goal

pub loop-l-init : goal.loop-l-init
loop-l-init c = record { marked = c.requires.marked; ready = c.requires.ready; left = rest-start c.requires.room }

pub split_at-requires : goal.split_at-requires
split_at-requires c =
    let l = c.loop-l in
    record {
      splittable = next-splittable _ _ _ l.l (omega arith) l.invariant.ready;
      room = next-room _ _ l.l (omega arith) l.invariant.left;
      marked = l.invariant.marked;
    }

pub loop-l-preserved : goal.loop-l-preserved
loop-l-preserved c =
    let l = c.loop-l in
    let i = l.invariant in
    let q = c.split_at.ensures.stores in
    record {
      marked = next-marked _ _ l.l (omega arith) i.left q i.ready _ c.split_at.ensures.marked_2;
      ready = next-ready _ _ l.l (omega arith) i.left q i.ready;
      left = next-rest _ _ l.l (omega arith) i.left q;
    }

pub returns : goal.returns
returns c = let l = c.loop-l in record { stores = splits-done _ l.l _ (omega arith) l.invariant.left; marked_2 = l.invariant.marked }
