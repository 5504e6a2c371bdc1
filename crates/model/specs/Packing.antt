-- Change request 5: pairs in rising key order packed into a fresh table, as rows of nodes from the leaves up; request 6: of both collections.
use Rattle.std.specs.Prelude.{◌≡◌, List, [], ◌∷◌, ◌++◌, map, ℕ, zero, suc, ◌+◌, ◌-◌, ◌*◌, length, take, drop, replicate}
use Rattle.std.proofs.Math.Option.{Option, none, some}
use Rattle.model.specs.Table.{MARK, Words}
use Rattle.model.specs.Slots.{Slot, slot}
use Rattle.model.specs.Reached.{Maps, flat}
use Rattle.model.specs.Writes.{node_words}

module _ {A : Type 0} (n : ℕ) where
  -- in groups of n, from the left; fuel is at least the number of groups
  unfoldable pub groups : (fuel : ℕ) → List A → List (List A)
  groups zero xs = []
  groups (suc f) [] = []
  groups (suc f) (x ∷ xs) = take n (x ∷ xs) ∷ groups f (drop n (x ∷ xs))

-- a node to be made: its left, its fence and its slots; its level is that of its row, its sibling the next one of the row
pub record Made : Type 0 where
  pub left : ℕ
  pub fence : ℕ
  pub slots : List Slot

-- the lowest key of a group
abbrev pub lowest : List Slot → ℕ
lowest [] = 0
lowest (s ∷ ss) = s.key

abbrev pub leaf_with : ℕ → List Slot → Made
leaf_with k ss = record { left = MARK; fence = k; slots = ss }

-- Each node after its level's first has as fence the lowest key below it.
abbrev pub leaf_from : List Slot → Made
leaf_from ss = leaf_with (lowest ss) ss

-- 11 to a leaf, from the left; with no pairs one empty leaf
unfoldable pub bottom : List Slot → List Made
bottom ps = leaf_with 0 (take 11 ps) ∷ map leaf_from (groups 11 (length ps) (drop 11 ps))

-- a row's nodes as children: the fence and the number of each; the first has number n
unfoldable pub numbered : ℕ → List Made → List Slot
numbered n [] = []
numbered n (x ∷ xs) = slot x.fence n ∷ numbered (suc n) xs

-- an inner node by its children: the first is left and gives the fence
abbrev pub inner_from : List Slot → Made
inner_from [] = record { left = 0; fence = 0; slots = [] }
inner_from (s ∷ ss) = record { left = s.pointer; fence = s.key; slots = ss }

-- the row above these nodes, the first of which has number n: 12 children to an inner node, from the left
unfoldable pub row_above : ℕ → List Made → List Made
row_above n xs = map inner_from (groups 12 (length xs) (numbered n xs))

-- the rows above, up to the root
unfoldable pub rows_above : (fuel n : ℕ) → List Made → List (List Made)
rows_above zero n xs = []
rows_above (suc f) n [] = []
rows_above (suc f) n (x ∷ []) = []
rows_above (suc f) n (x ∷ y ∷ ys) = let up = row_above n (x ∷ y ∷ ys) in up ∷ rows_above f (n + length (x ∷ y ∷ ys)) up

-- the rows from the leaves up, nodes numbered upward from n; the root has a level of at most 15
unfoldable pub packed : (n : ℕ) → List Slot → List (List Made)
packed n ps = let xs = bottom ps in xs ∷ rows_above 15 n xs

-- the sibling of node n: the next, if the row goes on with these
abbrev pub next : ℕ → List Made → ℕ
next n [] = 0
next n (x ∷ xs) = suc n

-- the words of a row on level l whose first node has number n; unused words are 0
unfoldable pub row_words : (l n : ℕ) → List Made → Words
row_words l n [] = []
row_words l n (x ∷ xs) = node_words x.left (next n xs) l x.fence x.slots ++ row_words l (suc n) xs

unfoldable pub rows_words : (l n : ℕ) → List (List Made) → Words
rows_words l n [] = []
rows_words l n (xs ∷ xss) = row_words l n xs ++ rows_words (suc l) (n + length xs) xss

unfoldable pub count_rows : List (List Made) → ℕ
count_rows [] = 0
count_rows (xs ∷ xss) = length xs + count_rows xss

-- the nodes that these pairs need
unfoldable pub packed_count : List Slot → ℕ
packed_count ps = count_rows (packed 1 ps)

-- their words, the first node being number n
unfoldable pub packed_words : (n : ℕ) → List Slot → Words
packed_words n ps = rows_words 0 n (packed n ps)

-- ---- both collections

-- something of the second collection's pairs; a where that is lacking
abbrev pub of_second : {A : Type 0} → A → (List Slot → A) → Option (List Slot) → A
of_second a f none = a
of_second a f (some qs) = f qs

-- the nodes that the pairs of both need
unfoldable pub packed_both : Maps → ℕ
packed_both m = packed_count m.one + of_second 0 packed_count m.two

-- The table of N nodes that holds these pairs, collection 1 first, also in numbering the nodes. The root of each is the last of its nodes.
unfoldable pub packed_table : (N : ℕ) → Maps → Words
packed_table N m =
    let c = packed_count m.one in
    (1 ∷ c ∷ N ∷ of_second 0 (λ (qs : List Slot). c + packed_count qs) m.two ∷ replicate 4 0)
    ++ (packed_words 1 m.one ++ (of_second [] (packed_words (suc c)) m.two ++ replicate (32 * (N - packed_both m)) 0))

-- ---- its fences: each node after its level's first has the lowest key below it

abbrev pub Some : {A : Type 0} → List A → Type 0
Some [] = ⊥
Some (x ∷ xs) = Unit {0}

-- the groups in a row
abbrev pub in_turn : {A : Type 0} → List (List A) → List A
in_turn {A} gs = flat (λ (g : List A). g) gs

-- the pairs below the nodes of a row, a list for each: of the leaves, their own
abbrev pub in_leaves : List Slot → List (List Slot)
in_leaves ps = take 11 ps ∷ groups 11 (length ps) (drop 11 ps)

-- of the row above: those below the children, 12 of them to a node
abbrev pub in_above : List (List Slot) → List (List Slot)
in_above bs = map in_turn (groups 12 (length bs) bs)

-- each node has as fence the lowest key below it; some pair is below it
abbrev pub Lowest : List Made → List (List Slot) → Type 0
Lowest [] [] = Unit {0}
Lowest [] (b ∷ bs) = ⊥
Lowest (x ∷ xs) [] = ⊥
Lowest (x ∷ xs) (b ∷ bs) = (x.fence ≡ lowest b) × Some b × Lowest xs bs

-- each but the first, whose fence is 0
abbrev pub Fenced : List Made → List (List Slot) → Type 0
Fenced [] bs = ⊥
Fenced (x ∷ xs) [] = ⊥
Fenced (x ∷ xs) (b ∷ bs) = (x.fence ≡ 0) × Lowest xs bs

-- so in every row from this one up, and the pairs below its nodes are all pairs ps
abbrev pub AllFenced : List Slot → List (List Made) → List (List Slot) → Type 0
AllFenced ps [] bs = Unit {0}
AllFenced ps (xs ∷ xss) bs = Fenced xs bs × (in_turn bs ≡ ps) × AllFenced ps xss (in_above bs)
