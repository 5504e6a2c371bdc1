-- The tour as one list of meetings still to come, as the code goes it. Proved twin of the request's recursion, `visit` in
-- crates/model/specs/Salvage.antt, and needs no belief: `tour-visits` in crates/tour_laws/proofs/Recursion.antt.
use Rattle.std.specs.Prelude.{true, false, List, [], ◌∷◌, ◌++◌, ℕ, zero, suc, ◌+◌, ◌*◌}
use Rattle.model.specs.Table.{Words, nodes}
use Rattle.model.specs.Salvage.{Meeting, meetings, may_enter, start}

module _ (t : Words) where
  -- the nodes entered from here on, in order: what a node meets comes before what was still to be met
  unfoldable pub order : (fuel : ℕ) → List Meeting → List ℕ → List ℕ
  order zero todo es = []
  order (suc f) [] es = []
  order (suc f) (x ∷ todo) es = elim (may_enter t x es) [ true ↦ x.node ∷ order f (meetings t x.node ++ todo) (x.node ∷ es) | false ↦ order f todo es ]

  -- the meetings that it leaves when its fuel is out
  unfoldable pub unmet : (fuel : ℕ) → List Meeting → List ℕ → List Meeting
  unmet zero todo es = todo
  unmet (suc f) [] es = []
  unmet (suc f) (x ∷ todo) es = elim (may_enter t x es) [ true ↦ unmet f (meetings t x.node ++ todo) (x.node ∷ es) | false ↦ unmet f todo es ]

-- the nodes entered from a root, in order, where es were entered before
unfoldable pub toured_from : Words → (root : ℕ) → List ℕ → List ℕ
toured_from t r es = order t (2 + 14 * nodes t) (start t r) es
