-- `insert_many::new_end` meets its contract. The loop keeps that the pairs that are asked for are there, and what the widths come to.
use native.Mathlib.Omega.{arith}
use Rattle.two_laws.proofs.SearchTwo.{sound-head}
use Rattle.write.proofs.Rooted.{root-sound}
use Rattle.clear.proofs.Fresh.{none-new}
use Rattle.insert_many.proofs.Going.{new-here}
use Rattle.insert_many.proofs.Widths.{widths-start, widths-none, widths-told, widths-half, end-before, end-told, end-none}
use Rattle.insert_many.proofs.new_end.Goals as goal

pub returns-then-i-end : goal.returns-then-i-end
returns-then-i-end c = record { value = end-before _ _ _ c.args.i _ c.if-i-end.true; new_2 = c.requires.new }

pub root_of-root-requires : goal.root_of-root-requires
root_of-root-requires c = record { table_value = sound-head _ c.requires.table_value; table_value_2 = c.requires.table_value_2 }

pub loop-width-init : goal.loop-width-init
loop-width-init c = let i = c.requires.i_in_bounds in (c.root_of-root.ensures, omega arith, widths-start _ _ _ _)

pub are_new-requires : goal.are_new-requires
are_new-requires c = let l = c.loop-width in let e =
    l.invariant in record {
      root_value = root-sound _ _ _ e.0 c.requires.table_value c.requires.table_value_2;
      from_le_to = omega arith;
      to_in_bounds = omega (arith, e.1);
    }

pub returns-then-are_new : goal.returns-then-are_new
returns-then-are_new c = let a = c.args in record {
  value = end-told _ _ _ _ _ c.if-i-end.false _ _ c.loop-width.invariant.0 (widths-told c.loop-width.invariant.2 c.loop-width-test.true _
      c.are_new.ensures.value c.if-are_new.true);
  new_2 = new-here a.collection a.table.now _ c.loop-width.invariant.0 _ (c.are_new.ensures.new c.if-are_new.true);
}

pub loop-width-preserved : goal.loop-width-preserved
loop-width-preserved c = let l = c.loop-width.invariant in
    (l.0, omega (arith, l.1), widths-half l.2 c.loop-width-test.true _ c.are_new.ensures.value c.if-are_new.false)

pub returns : goal.returns
returns c = record {
  value = end-none _ _ _ _ _ c.if-i-end.false _ c.loop-width.invariant.0
      (widths-none c.loop-width.invariant.2 c.loop-width-test.false);
  new_2 = none-new _ _ _ _ (omega arith);
}
