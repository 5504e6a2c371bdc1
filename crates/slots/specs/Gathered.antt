-- The ways down from a node, as slots in two arrays.
use Rattle.std.specs.Prelude.{List, [], ◌∷◌, ℕ, zero, suc, ◌-◌, get_or}
use Rattle.model.specs.Table.{Words}
use Rattle.model.specs.Slots.{Slot, slot}
use Rattle.model.specs.Reached.{pointers}
use Rattle.slots.specs.declared.ways.Ways.{Ways}

-- the slots i, i + 1 .. of two arrays, m of them
unfoldable pub span : Words → Words → ℕ → ℕ → List Slot
span ks ps i zero = []
span ks ps i (suc m) = slot (get_or ks i 0) (get_or ps i 0) ∷ span ks ps (suc i) m

abbrev pub slots_in : Ways → List Slot
slots_in w = span w.keys w.pointers 0 w.count

-- those from i on
unfoldable pub ways_from : Ways → ℕ → List Slot
ways_from w i = span w.keys w.pointers i (w.count - i)

abbrev pub pointers_from : Ways → ℕ → List ℕ
pointers_from w i = pointers (ways_from w i)
