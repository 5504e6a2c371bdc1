-- The tree at a header word, and nodes that it must not reach: what the laws of one tree speak of.
use Rattle.std.proofs.Common.{◌≡◌, ℕ, ◌<◌, true, false, List}
use Rattle.model.specs.Table.{Words, at}
use Rattle.model.specs.Slots.{Slot, View, view_from}
use Rattle.model.specs.Search.{path}
use Rattle.model.specs.Reached.{reached, mapping}
use Rattle.model.specs.SoundTest.{elem, Leftover, leftover, has_room}
use Rattle.model.specs.Orders.{Store, apply}
use Rattle.model.specs.Writes.{repair_of, standing_in, run_in}
use Rattle.list_laws.proofs.Tools.{Each}
use Rattle.table_laws.proofs.Header.{HeadFacts}
use Rattle.word_laws.proofs.Frames.{SameHeader}
use Rattle.change_laws.proofs.Parts.{HasLeft}

-- ---- the tree whose root header word w holds

module _ (w : ℕ) where
  -- the view from the root that header word w holds
  abbrev pub tree_at : Words → View
  tree_at t = view_from t (at t w)

  abbrev pub root_at : Words → ℕ
  root_at t = at t w

  abbrev pub map_at : Words → List Slot
  map_at t = mapping (tree_at t)

  abbrev pub standing_at : Words → (l k : ℕ) → ℕ
  standing_at t l k = standing_in (tree_at t) l k

  abbrev pub run_at : Words → (k : ℕ) → ℕ
  run_at t k = run_in (tree_at t) (path (tree_at t) k)

  unfoldable pub repair_at : Words → List Store
  repair_at t = repair_of t (leftover (tree_at t))

  -- the table after the repair of that tree alone
  unfoldable pub repaired_at : Words → Words
  repaired_at t = apply (repair_at t) t

  pub same-word : w < 8 → {t t' : Words} → SameHeader t t' → at t' w ≡ at t w
  same-word low h = h.words w low

-- ---- that tree beside others, which reach the nodes ns

-- it reaches none of them
abbrev pub Avoids : List ℕ → View → Type 0
Avoids ns v = Each (λ (n : ℕ). elem n ns ≡ false) (reached v)

pub avoids-is : (ns : List ℕ) (v u : View) → v ≡ u → Avoids ns u → Avoids ns v
avoids-is ns v u e o = rw e o

module _ (w : ℕ) (ns : List ℕ) where
  -- a right header, y left in the tree with room for it, and none of ns reached
  pub record Fine (t : Words) (y : Leftover) : Type 0 where
    pub low : w < 8
    pub header : HeadFacts t
    pub left : HasLeft (tree_at w t) y
    pub room : has_room (tree_at w t) y ≡ true
    pub apart : Avoids ns (tree_at w t)

  abbrev pub Sound : Words → Type 0
  Sound t = (y : Leftover) × Fine t y
