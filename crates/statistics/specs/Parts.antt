-- The parts of a report, as words.
use Rattle.std.specs.Prelude.{[], ◌∷◌, ℕ}
use Rattle.model.specs.Table.{Words}
use Rattle.statistics.specs.declared.Kind.{Kind}
use Rattle.statistics.specs.declared.Kind.TheVariants.{Nothing, Hidden, Missing, Both}
use Rattle.statistics.specs.declared.Left.{Left}
use Rattle.statistics.specs.declared.Tree.{Tree}

-- a kind's number
abbrev pub kind_number : Kind → ℕ
kind_number Nothing = 0
kind_number Hidden = 1
kind_number Missing = 2
kind_number Both = 3

abbrev pub left_part : Left → Words
left_part x =
    kind_number x.kind ∷ x.collection ∷ x.hidden ∷ x.slot ∷ x.node ∷ x.neighbour ∷ x.parent ∷ x.trailing ∷ []

abbrev pub tree_part : Tree → Words
tree_part x = x.nodes ∷ x.codes ∷ x.levels ∷ []
