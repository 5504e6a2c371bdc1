-- Document 01, "Search": finding the leaf, finding the slot in it, and the answer; request 1: the next code up.
use Rattle.std.specs.Prelude.{Bool, true, false, ◌&&◌, ◌||◌, List, [], ◌∷◌, ℕ, zero, suc, leb, ltb, eqb, Some, None}
use Rattle.std.specs.Prelude as rust
use Rattle.std.proofs.Math.Option.{Option, none, some}
use Rattle.model.specs.declared.Answer.{Answer}
use Rattle.model.specs.declared.Answer.TheVariants.{Found, Absent, Refused}
use Rattle.model.specs.Table.{Words, in_range, header_ok, no_collection}
use Rattle.model.specs.Slots.{Slot, recording, class, View, view_of, height}

-- key k is below the fence of node s; number 0, for no node, bounds no key
unfoldable pub below : View → ℕ → ℕ → Bool
below v s k = eqb s 0 || ltb k (v.node s).fence

-- k is below the fence of n's sibling; with sibling 0 every key is
abbrev pub within : View → ℕ → ℕ → Bool
within v n k = below v (v.node n).sibling k

-- If the sibling is not 0 and k is at least the sibling's fence, move there; at most one move a level.
unfoldable pub moved : View → ℕ → ℕ → ℕ
moved v n k = elim (within v n k) [ true ↦ n | false ↦ (v.node n).sibling ]

-- In an inner node go down by the last shown slot whose key is at most k, else by left (p).
unfoldable pub route : ℕ → ℕ → List Slot → ℕ
route k p [] = p
route k p (s ∷ ss) = elim (leb s.key k) [ true ↦ route k s.pointer ss | false ↦ route k p ss ]

abbrev pub down : View → ℕ → ℕ → ℕ
down v n k = route k (v.node n).left (v.node n).shown

-- ---- finding the leaf

-- node n is in 1 to N and on level l
unfoldable pub on_level : View → ℕ → ℕ → Bool
on_level v l n = in_range v.nodes n && eqb (v.node n).level l

-- coming to n on level l: it is on that level, and so is its sibling, where it has one
unfoldable pub passes : View → ℕ → ℕ → Bool
passes v l n = on_level v l n && (eqb (v.node n).sibling 0 || on_level v l (v.node n).sibling)

module _ (v : View) where
  -- the leaf for k, coming to n on level l; none where a test fails
  unfoldable pub locate : ℕ → ℕ → ℕ → Option ℕ
  locate zero n k = elim (passes v 0 n) [ true ↦ some (moved v n k) | false ↦ none ]
  locate (suc l) n k = elim (passes v (suc l) n) [ true ↦ locate l (down v (moved v n k) k) k | false ↦ none ]

  -- the nodes that a search for k stands on, coming to n on level l, the highest first
  unfoldable pub path_from : ℕ → ℕ → ℕ → List ℕ
  path_from zero n k = moved v n k ∷ []
  path_from (suc l) n k = let m = moved v n k in m ∷ path_from l (down v m k) k

abbrev pub path : View → ℕ → List ℕ
path v k = path_from v (height v) v.root k

-- ---- finding the slot

-- the first shown slot whose key is k
unfoldable pub first_with : ℕ → List Slot → Option Slot
first_with k [] = none
first_with k (s ∷ ss) = elim (eqb s.key k) [ true ↦ some s | false ↦ first_with k ss ]

-- ---- the next code up, where the key is absent

unfoldable pub filter {ℓ} : {A : Type ℓ} → (A → Bool) → List A → List A
filter p [] = []
filter p (x ∷ xs) = elim (p x) [ true ↦ x ∷ filter p xs | false ↦ filter p xs ]

-- the shown slots whose key is below their node's sibling's fence; the others are ignored
unfoldable pub kept : View → ℕ → List Slot
kept v n = filter (λ (s : Slot). within v n s.key) (v.node n).shown

-- the next code up, if there is one
abbrev pub Next : Type 0
Next = rust.Option ℕ

-- the first slot with a larger key
unfoldable pub first_above : ℕ → List Slot → Next
first_above k [] = None
first_above k (s ∷ ss) = elim (ltb k s.key) [ true ↦ Some s.key | false ↦ first_above k ss ]

-- the larger key of a leaf, or what the leaves after it answer
abbrev pub absent_or : Next → Answer → Answer
absent_or (Some j) later = Absent (Some j)
absent_or None later = later

module _ (v : View) where
  -- It is looked for from leaf n and on along the siblings: the first shown slot, below its own leaf's sibling's fence, with a larger key.
  -- If a leaf on the way fails the search's tests, or more than c leaves would be entered, the search is refused with 3.
  unfoldable pub next_from : (c n k : ℕ) → Answer
  next_from zero n k = Refused 3
  next_from (suc c) n k =
      let s = (v.node n).sibling in
      elim (passes v 0 n) [
        | true ↦ absent_or (first_above k (kept v n)) (elim (eqb s 0) [ true ↦ Absent None | false ↦ next_from c s k ])
        | false ↦ Refused 3
      ]

-- ---- the answer

-- from the slot found; the answer where there is none is given
abbrev pub answer_of : Option Slot → (absent : Answer) → Answer
answer_of none absent = absent
answer_of (some s) absent = Found (recording s) (class s)

-- of a list of pairs
unfoldable pub lookup : ℕ → List Slot → Answer
lookup k ss = answer_of (first_with k ss) (Absent (first_above k ss))

-- from the leaf, where one was found; with it, N leaves may be entered
abbrev pub answer_in : View → ℕ → Option ℕ → Answer
answer_in v k none = Refused 3
answer_in v k (some n) = answer_of (first_with k (v.node n).shown) (next_from v v.nodes n k)

unfoldable pub search_view : View → ℕ → Answer
search_view v k = elim (leb (height v) 15) [ true ↦ answer_in v k (locate v (height v) v.root k) | false ↦ Refused 3 ]

-- of collection n: 2, 17, then as its tree answers
unfoldable pub search : (n : ℕ) → Words → (k : ℕ) → Answer
search n t k =
    elim (header_ok t) [ true ↦ elim (no_collection n t) [ true ↦ Refused 17 | false ↦ search_view (view_of n t) k ] | false ↦ Refused 2 ]

-- the recording, and the class, that lent words then hold; they stay where there is none
abbrev pub recording_or : Answer → ℕ → ℕ
recording_or (Found r c) old = r
recording_or (Absent x) old = old
recording_or (Refused n) old = old

abbrev pub access_or : Answer → ℕ → ℕ
access_or (Found r c) old = c
access_or (Absent x) old = old
access_or (Refused n) old = old

-- the next key up, and 1 where there is one, 0 where there is none, that lent words then hold; they stay where the key is not absent
abbrev pub next_or : Answer → ℕ → ℕ
next_or (Found r c) old = old
next_or (Absent (Some j)) old = j
next_or (Absent None) old = old
next_or (Refused n) old = old

abbrev pub higher_or : Answer → ℕ → ℕ
higher_or (Found r c) old = old
higher_or (Absent (Some j)) old = 1
higher_or (Absent None) old = 0
higher_or (Refused n) old = old
