-- `salvage::most_kept` meets its contract.
use native.Mathlib.Omega.{arith}
use Rattle.salvage.proofs.Bounds.{words-some, one-few, two-few, few, most, used-fit, kept-bounds}
use Rattle.salvage.proofs.most_kept.Goals as goal

pub count_used-one-requires : goal.count_used-one-requires
count_used-one-requires c = one-few _ _ _ c.args.entered.toured

pub count_used-two-requires : goal.count_used-two-requires
count_used-two-requires c = two-few _ _ _ c.args.entered.toured

pub needed_both-requires : goal.needed_both-requires
needed_both-requires c = let b = few _ _ _ c.args.entered.toured _ _ c.count_used-one.ensures.1 c.count_used-two.ensures.1 in
    (words-some _ _ _ c.args.entered.toured, b.0, b.1)

pub bounds-entered-2 : goal.bounds-entered-2
bounds-entered-2 c = let w = words-some _ _ _ c.args.entered.toured in omega (arith, w)

pub returns-then-needed_both-entered : goal.returns-then-needed_both-entered
returns-then-needed_both-entered c = record {
  most = most _ _ _ c.args.entered.toured _ _ c.count_used-one.ensures.1 c.count_used-two.ensures.1 c.count_used-one.ensures.0
      c.count_used-two.ensures.0;
  two_value =
      used-fit _ _ _ c.args.entered.toured _ _ c.count_used-one.ensures.1 c.count_used-two.ensures.1 c.count_used-one.ensures.0
      c.count_used-two.ensures.0 _ c.needed_both.ensures c.if-needed_both-entered.true;
}

pub count_kept-one-requires : goal.count_kept-one-requires
count_kept-one-requires c = one-few _ _ _ c.args.entered.toured

pub count_kept-two-requires : goal.count_kept-two-requires
count_kept-two-requires c = two-few _ _ _ c.args.entered.toured

pub returns : goal.returns
returns c = let both =
    kept-bounds _ _ _ c.args.entered.toured _ _ c.count_kept-one.ensures.1 c.count_kept-two.ensures.1 c.count_kept-one.ensures.0
    c.count_kept-two.ensures.0 in record { most = both.0; two_value = both.1 }
