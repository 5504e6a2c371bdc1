-- The map that a script's table is held to: which of the keys 1, 2 and 3 it has, each with recording 10 plus the key and class 0.
use Rattle.std.specs.Prelude.{Bool, cond, List, [], ◌∷◌, ℕ, suc, ◌+◌, ◌%◌, set}
use Rattle.model.specs.Slots.{Slot, slot, pointer_of}
use Rattle.model.specs.Scripts.{inserts}

abbrev pub Held : Type 0
Held = List Bool

-- the pairs of the keys from k on that are there
abbrev pub pairs_from : (k : ℕ) → Held → List Slot
pairs_from k [] = []
pairs_from k (there ∷ later) = cond there (slot k (pointer_of (10 + k) 0) ∷ pairs_from (suc k) later) (pairs_from (suc k) later)

unfoldable pub pairs : Held → List Slot
pairs h = pairs_from 1 h

-- after an accepted action
unfoldable pub changed : Held → (action : ℕ) → Held
changed h a = set h (a % 3) (inserts a)
