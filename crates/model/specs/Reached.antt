-- Document 01, "Search": the nodes reached, and the map; request 6: the collections of a table.
use Rattle.std.specs.Prelude.{Bool, true, false, cond, List, [], ◌∷◌, ◌++◌, map, ℕ, zero, suc, eqb}
use Rattle.std.proofs.Math.Option.{Option, none, some}
use Rattle.model.specs.Table.{Words, at}
use Rattle.model.specs.Slots.{Slot, View, view_of, height}
unfoldable pub use Rattle.model.specs.Search.{filter, kept}

unfoldable pub flat {ℓ} : {A B : Type ℓ} → (A → List B) → List A → List B
flat g [] = []
flat g (x ∷ xs) = g x ++ flat g xs

abbrev pub head_or : ℕ → List ℕ → ℕ
head_or d [] = d
head_or d (x ∷ xs) = x

abbrev pub pointers : List Slot → List ℕ
pointers ss = map (λ (s : Slot). s.pointer) ss

-- ---- the nodes reached, by left, by sibling and by kept slots. Proved twin of `Reached` in Sound.antt, and so is `mapping` of document 01's
-- sentence about the map: `reached-same` and `map-same` in crates/sound_laws/proofs/Same.antt, on every sound table, where alone they are
-- used. Only `kept` and the collections of a table, below, need belief.

-- the children that an inner node names: left, then by its kept slots
abbrev pub named : View → ℕ → List ℕ
named v n = (v.node n).left ∷ pointers (kept v n)

-- the leftmost child of n, and the node that comes after n's last child on their level; 0 for none
unfoldable pub first_child : View → ℕ → ℕ
first_child v n = elim (eqb n 0) [ true ↦ 0 | false ↦ (v.node n).left ]

abbrev pub next_child : View → ℕ → ℕ
next_child v n = first_child v (v.node n).sibling

module _ (v : View) where
  -- nodes of one level in a row that e follows, with each one's sibling after it where the row lacks that
  unfoldable pub fill_row : List ℕ → ℕ → List ℕ
  fill_row [] e = []
  fill_row (n ∷ ns) e = elim (eqb (v.node n).sibling (head_or e ns)) [ true ↦ n ∷ fill_row ns e | false ↦ n ∷ (v.node n).sibling ∷ fill_row ns e ]

  -- the nodes reached from n on the level below; from a leaf none
  unfoldable pub children : ℕ → List ℕ
  children n = elim (eqb (v.node n).level 0) [ true ↦ [] | false ↦ fill_row (named v n) (next_child v n) ]

  -- the nodes reached from a row d levels above the leaves, row by row; and the row of the leaves
  unfoldable pub reached_from : ℕ → List ℕ → List ℕ
  reached_from zero ns = ns
  reached_from (suc d) ns = ns ++ reached_from d (flat children ns)

  unfoldable pub leaves_from : ℕ → List ℕ → List ℕ
  leaves_from zero ns = ns
  leaves_from (suc d) ns = leaves_from d (flat children ns)

-- the nodes reached from the root, and the leaves among them, each row from left to right.
-- On a sound table these are the nodes of document 01's sentence, which Sound.antt renders literally.
abbrev pub reached : View → List ℕ
reached v = reached_from v (height v) (v.root ∷ [])

abbrev pub leaves : View → List ℕ
leaves v = leaves_from v (height v) (v.root ∷ [])

-- ---- the map

-- Every shown slot of a reached leaf whose key is below the leaf's sibling's fence, as (key, pointer): code, recording and class.
unfoldable pub mapping : View → List Slot
mapping v = flat (kept v) (leaves v)

-- the map of collection n
abbrev pub map_of : (n : ℕ) → Words → List Slot
map_of n t = mapping (view_of n t)

-- ---- the collections of a table

-- Word 3 is the root of collection 2, 0 for none.
abbrev pub collections : Words → List ℕ
collections t = cond (eqb (at t 3) 0) (1 ∷ []) (1 ∷ 2 ∷ [])

abbrev pub trees : Words → List View
trees t = map (λ (n : ℕ). view_of n t) (collections t)

-- the nodes reached from either root
unfoldable pub reached_all : Words → List ℕ
reached_all t = flat reached (trees t)

-- the two maps: the second, or its lack
pub record Maps : Type 0 where
  pub one : List Slot
  pub two : Option (List Slot)

abbrev pub unless_lacking : {A : Type 0} → (lacking : Bool) → A → Option A
unless_lacking true a = none
unless_lacking false a = some a

unfoldable pub maps_of : Words → Maps
maps_of t = record { one = map_of 1 t; two = unless_lacking (eqb (at t 3) 0) (map_of 2 t) }
