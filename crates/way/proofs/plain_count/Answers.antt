-- `way::plain_count` meets its contract.
use Rattle.way.proofs.Walking.{plain-is, plain-few}
use Rattle.way.proofs.plain_count.Goals as goal

pub returns : goal.returns
returns c = record {
  value = plain-is _ _ _ c.read-x.ensures _ _ c.count.ensures.value c.shown_count-shown.ensures _ c.then_some.ensures;
  upper_bound = plain-few _ _ _ c.read-x.ensures _ _ c.count.ensures.value c.shown_count-shown.ensures _ c.then_some.ensures
      c.count.ensures.upper_bound;
}
