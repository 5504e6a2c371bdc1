-- `recordings::ways` meets its contract.
use Rattle.std.proofs.Common.{◌≤◌, map, ap, length, sym, ◌∙◌, arith}
use Rattle.model.specs.Slots.{recording}
use Rattle.recordings.proofs.LeafLaws.{none-own, ways-some, ways-kept}
use Rattle.recordings.proofs.ways.Goals as goal

pub returns-then-not-is_leaf : goal.returns-then-not-is_leaf
returns-then-not-is_leaf c =
    record { numbers = ap (map recording) (none-own _ _ _ _ c.is_leaf.ensures c.if-not-is_leaf.true); count_low = tt }

pub read_leaf-x-requires : goal.read_leaf-x-requires
read_leaf-x-requires c = sym c.is_leaf.ensures ∙ c.if-not-is_leaf.false

pub returns : goal.returns
returns c = let w = c.gather.result in
    let is = c.gather.ensures in
    let high : w.count ≤ length w.pointers = omega arith in
    record {
      numbers = ways-kept c.read_leaf-x.result w is high ∙ ap (map recording) c.read_leaf-x.ensures;
      count_low = ways-some c.read_leaf-x.result w is;
    }
