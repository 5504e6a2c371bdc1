-- What is known of a node's slots, a slot in use at a time: whether the kept ones rise and come first, and how many are hidden.
use Rattle.std.specs.Prelude.{Bool, true, false, cond, not, ◌&&◌, List, [], ◌∷◌, ℕ, ◌+◌, leb, ltb, eqb}
use Rattle.model.specs.Slots.{Slot}
use Rattle.model.specs.declared.Node.{Node}
use Rattle.slots.specs.declared.Low.{Low}
use Rattle.slots.specs.declared.Low.TheVariants.{AtLeast, Above}
use Rattle.slots.specs.declared.Survey.{Survey}
use Rattle.slots.specs.Scan.{keeps}

-- which keys a node's first kept slot may have: in an inner node those above its fence, in a leaf the fence too
abbrev pub first_low : (level fence : ℕ) → Low
first_low level fence = cond (eqb level 0) (AtLeast fence) (Above fence)

abbrev pub reaches : Low → ℕ → Bool
reaches (AtLeast k) key = leb k key
reaches (Above k) key = ltb k key

unfoldable pub still_fair : Survey → ℕ → Bool
still_fair s key = s.fair && (not s.trailing && reaches s.low key)

abbrev pub hiding : ℕ → Survey → Survey
hiding p s = record { fair = s.fair; trailing = s.trailing; low = s.low; before = p; hidden = s.hidden + 1 }

abbrev pub trailed : ℕ → Survey → Survey
trailed p s = record { fair = s.fair; trailing = true; low = s.low; before = p; hidden = s.hidden }

abbrev pub keeping : ℕ → ℕ → Survey → Survey
keeping k p s = record { fair = still_fair s k; trailing = s.trailing; low = Above k; before = p; hidden = s.hidden }

-- a slot (k, p) in use more, of a node with this sibling, whose fence is the bound
unfoldable pub surveyed_slot : (sibling bound k p : ℕ) → Survey → Survey
surveyed_slot sibling bound k p s =
    cond (eqb p s.before) (hiding p s) (cond (keeps sibling bound k) (keeping k p s) (trailed p s))

unfoldable pub surveyed : (sibling bound : ℕ) → List Slot → Survey → Survey
surveyed sibling bound [] s = s
surveyed sibling bound (x ∷ xs) s = surveyed sibling bound xs (surveyed_slot sibling bound x.key x.pointer s)

abbrev pub begun : Node → Survey
begun x = record { fair = true; trailing = false; low = first_low x.level x.fence; before = x.left; hidden = 0 }
