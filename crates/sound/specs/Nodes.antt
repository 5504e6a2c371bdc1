-- What is seen of one node, and what is noted on the way to another.
use Rattle.std.specs.Prelude.{Bool, cond, not, ◌||◌, Option, None, Some, [], ◌∷◌, ℕ, eqb}
use Rattle.model.specs.Table.{MARK}
use Rattle.model.specs.Slots.{slot, View}
use Rattle.model.specs.SoundTest.{finished, together, missing_at, own}
use Rattle.model.specs.declared.Unfinished.{Unfinished}
use Rattle.walk_laws.specs.Walk.{Visit, alone_ok, visits_of, Tally, tally, fold, check}

-- a visit on whose way nothing is unfinished
abbrev pub standing : ℕ → ℕ → ℕ → ℕ → Visit
standing n level fence right = record { node = n; level = level; fence = fence; right = right; way = finished }

-- a leaf's left is MARK
abbrev pub left_ok : (level left : ℕ) → Bool
left_ok level left = not (eqb level 0) || eqb left MARK

-- what is unfinished in n, if it is in order without its children
unfoldable pub look_of : View → ℕ → Option Unfinished
look_of v n = cond (alone_ok v n) (Some (own v n)) None

-- the sibling of c lacks its slot in p
abbrev pub noted : ℕ → ℕ → Tally → Tally
noted p c None = None
noted p c (Some s) = tally s.count (together s.unfinished (missing_at p c))

-- the check of one slot of p, with key k and pointer c, on level d, which r follows
unfoldable pub slot_checked : View → ℕ → ℕ → ℕ → ℕ → ℕ → Tally → Tally
slot_checked v p d k c r s = fold (check v d) (visits_of v p d (slot k c ∷ []) r) s
