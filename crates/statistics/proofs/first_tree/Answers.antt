-- `statistics::first_tree` meets its contract.
use mathlib.Core.Path.{sym, ◌∙◌}
use Rattle.statistics.proofs.Trees.{header, first-alone, first-beside, first-never}
use Rattle.statistics.proofs.first_tree.Goals as goal

pub returns-then-word_at-eq0 : goal.returns-then-word_at-eq0
returns-then-word_at-eq0 c = let both =
    first-alone _ _ _ c.requires (sym c.word_at.ensures ∙ c.if-word_at-eq0.true) _ c.collection_of.ensures in record
    { nodes_value = both.0; left_in_value = both.1 }

pub check_tree-requires : goal.check_tree-requires
check_tree-requires c = header _ _ _ c.requires

pub returns-in-Some : goal.returns-in-Some
returns-in-Some c = let both =
    first-beside _ _ _ c.requires _ c.word_at-root.ensures _ _ c.in-Some.ensures _ c.collection_of-in-Some.ensures in record
    { nodes_value = both.0; left_in_value = both.1 }

pub returns-in-None : goal.returns-in-None
returns-in-None c = let both =
    first-never _ _ _ c.requires _ c.word_at-root.ensures c.in-None.ensures in record { nodes_value = both.0; left_in_value = both.1 }
