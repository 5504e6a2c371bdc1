-- `cells::move_in` meets its contract.
use Rattle.std.proofs.Common.{refl, arith}
use Rattle.cells.proofs.Walking.{gap-moves, gap-stays}
use Rattle.cells.proofs.move_in.Goals as goal

pub returns-then-ahead : goal.returns-then-ahead
returns-then-ahead c = let p =
    c.requires in record {
      by_index = gap-moves _ _ _ _ refl _ _ _ p.at_nonzero c.home.ensures.value c.ahead.ensures c.ahead-2.ensures c.if-ahead.true;
      upper_bound = p.at_in_bounds;
    }

pub returns : goal.returns
returns c = let p = c.requires in record {
  by_index = gap-stays _ _ _ _ refl _ _ _ p.at_nonzero c.home.ensures.value c.ahead.ensures c.ahead-2.ensures
      (let t = c.if-ahead.false in omega (arith, t));
  upper_bound = p.gap_in_bounds;
}
