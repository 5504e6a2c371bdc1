-- The parts of a table that holds packed pairs.
use Rattle.std.specs.Prelude.{List, [], ◌∷◌, ◌++◌, ℕ, suc, ◌+◌, ◌-◌, ◌*◌, replicate}
use Rattle.model.specs.Table.{Words}
use Rattle.model.specs.Reached.{Maps}
use Rattle.model.specs.Packing.{packed_count, packed_words, of_second, packed_both}
use Rattle.model.specs.Pack.{maps_in}
use Rattle.packing.specs.declared.Given.{Given}

-- the maps that are handed in
abbrev pub given : Given → Maps
given g = maps_in g.collections g.pairs.now g.loans.now

-- the header of a table of n nodes with these roots, 0 for no second one
abbrev pub header_words : (root second n : ℕ) → Words
header_words root second n = 1 ∷ root ∷ n ∷ second ∷ replicate 4 0

-- the number of the second root
abbrev pub second_root : Maps → ℕ
second_root m = of_second 0 (λ (qs : List _). packed_count m.one + packed_count qs) m.two

-- its nodes, if it holds these pairs
abbrev pub packed_nodes : (n : ℕ) → Maps → Words
packed_nodes n m =
    packed_words 1 m.one ++ (of_second [] (packed_words (suc (packed_count m.one))) m.two ++ replicate (32 * (n - packed_both m)) 0)
