-- `statistics::report_of` meets its contract.
use Rattle.std.proofs.Common.{[], ◌∷◌, ℕ, ap, ◌∙◌, arith}
use Rattle.statistics.proofs.Trees.{first-ready}
use Rattle.statistics.proofs.Whole.{is-counted, not-more, the-others, report-is}
use Rattle.statistics.proofs.report_of.Goals as goal

pub unreachable-free-requires : goal.unreachable-free-requires
unreachable-free-requires c = let both = is-counted _ _ _ c.requires in record { table_value = both.0; count_value = both.1 }

pub tree_of-one-requires : goal.tree_of-one-requires
tree_of-one-requires c = let both =
    first-ready _ (is-counted _ _ _ c.requires).0 _ _ c.word_at-root.ensures c.first_tree-first.ensures.nodes_value in
    record { table_value = both.0; root_value = both.1.0; nodes_value = both.1.1 }

pub overflow_sub-whole : goal.overflow_sub-whole
overflow_sub-whole c = omega (arith, not-more _ _ _ c.requires _ c.first_tree-first.ensures.nodes_value)

pub second_tree-two-requires : goal.second_tree-two-requires
second_tree-two-requires c = let both =
    the-others _ _ _ c.requires _ c.first_tree-first.ensures.nodes_value in record { table_value = both.0; nodes_len = both.1 }

pub returns : goal.returns
returns c = let f = c.first_tree-first.ensures in
    let x = c.left_of-x.result in
    let words = ap (λ (k : ℕ). k ∷ x.collection ∷ x.hidden ∷ x.slot ∷ x.node ∷ x.neighbour ∷ x.parent ∷ x.trailing ∷ []) c.from.ensures
    ∙ c.left_of-x.ensures in
    report-is _ _ _ c.requires _ _ _ _ _ _ _ words f.left_in_value c.word_at-size.ensures
    c.unreachable-free.ensures c.word_at-root.ensures c.tree_of-one.ensures c.second_tree-two.ensures
