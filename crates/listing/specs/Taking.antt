-- A listing pair by pair: each is written while whole pairs fit, and the first that does not fit is noted.
use Rattle.std.specs.Prelude.{Bool, true, false, cond, not, ◌&&◌, List, [], ◌∷◌, ℕ, ◌+◌, ◌*◌, ◌/◌, leb, eqb, length, set}
use Rattle.model.specs.Table.{Words}
use Rattle.model.specs.Slots.{Slot, slot, View}
use Rattle.model.specs.Reached.{filter, flat, kept}
use Rattle.model.specs.Listing.{in_range_of}
use Rattle.model.specs.Summary.{leaves_up_to}
use Rattle.slots.specs.Scan.{keeps}
use Rattle.model.specs.declared.Page.{Page}
use Rattle.listing.specs.declared.Window.{Window}

-- the lent slice as it stands, and how far the listing has come
pub record Sheet : Type 0 where
  pub words : Words
  pub count : ℕ
  pub more : Bool

abbrev pub sheet : Words → Page → Sheet
sheet ws p = record { words = ws; count = p.count; more = p.more }

abbrev pub begun : Words → Sheet
begun ws = record { words = ws; count = 0; more = false }

-- a pair written, and one that is left
abbrev pub written : Slot → Sheet → Sheet
written s x =
    record { words = set (set x.words (2 * x.count) s.key) (2 * x.count + 1) s.pointer; count = x.count + 1; more = x.more }

abbrev pub passed : Sheet → Sheet
passed x = record { words = x.words; count = x.count; more = true }

-- one pair more
unfoldable pub taken : Slot → Sheet → Sheet
taken s x = cond (leb (length x.words / 2) x.count) (passed x) (written s x)

unfoldable pub all_taken : List Slot → Sheet → Sheet
all_taken [] x = x
all_taken (s ∷ ss) x = all_taken ss (taken s x)

-- ---- a leaf's slots

-- a key is kept, and in the range
unfoldable pub wants : Window → ℕ → Bool
wants w k = keeps w.sibling w.bound k && (leb w.low k && leb k w.high)

unfoldable pub wanted : Window → List Slot → List Slot
wanted w ss = filter (λ (s : Slot). wants w s.key) ss

-- a slot (k, p) in use more, with the pointer before it
unfoldable pub slot_taken : Window → (before k p : ℕ) → Sheet → Sheet
slot_taken w before k p x = cond (not (eqb p before) && wants w k) (taken (slot k p) x) x

-- ---- the leaves along the siblings

-- the pairs in a range of the leaves from n on, as a page of a quick listing has them
abbrev pub pairs_from : View → (low high n : ℕ) → List Slot
pairs_from v low high n = in_range_of low high (flat (kept v) (leaves_up_to v high v.nodes n))
