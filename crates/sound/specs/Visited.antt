-- The nodes that the check of a node visits, and their marks.
use Rattle.std.specs.Prelude.{◌≡◌, ◌||◌, None, Some, List, [], ◌∷◌, ℕ, zero, suc}
use Rattle.model.specs.Table.{Words}
use Rattle.model.specs.Slots.{View}
use Rattle.model.specs.Reached.{flat, named, next_child, fill_row}
use Rattle.model.specs.SoundTest.{elem}
use Rattle.walk_laws.specs.Walk.{Tally}
use Rattle.bits.specs.Bits.{has}

module _ (v : View) where
  -- n, d levels above the leaves, and those below it
  unfoldable pub visited : ℕ → ℕ → List ℕ
  visited zero n = n ∷ []
  visited (suc d) n = n ∷ flat (visited d) (fill_row v (named v n) (next_child v n))

  -- those below a slot with pointer c on level d, which r follows
  unfoldable pub slot_visited : ℕ → ℕ → ℕ → List ℕ
  slot_visited d c r = flat (visited d) (fill_row v (c ∷ []) r)

-- the nodes ns are marked besides
abbrev pub Adds : List ℕ → (before after : Words) → Type 0
Adds ns before after = (x : ℕ) → has after x ≡ (has before x || elem x ns)

-- the check was not refused
abbrev pub Seen : Tally → Type 0
Seen None = ⊥
Seen (Some s) = Unit {0}
