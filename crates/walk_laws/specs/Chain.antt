-- Document 01, "Sound tables": the leaves passed one by one, from the leftmost along the siblings, and the last leaf; on any view.
use Rattle.std.specs.Prelude.{true, false, List, [], ◌∷◌, ℕ, zero, suc, leb, eqb}
use Rattle.model.specs.Slots.{View, height}
use Rattle.model.specs.Reached.{named}

-- the last of a list; e for none
unfoldable pub last_or : ℕ → List ℕ → ℕ
last_or e [] = e
last_or e (n ∷ ns) = last_or n ns

module _ (v : View) where
  -- d levels down from n, by left
  unfoldable pub leftmost : ℕ → ℕ → ℕ
  leftmost zero n = n
  leftmost (suc d) n = leftmost d (v.node n).left

  -- n and the nodes along the siblings, at most c; 0 is no node
  unfoldable pub along : ℕ → ℕ → List ℕ
  along zero n = []
  along (suc c) n = elim (eqb n 0) [ true ↦ [] | false ↦ n ∷ along c (v.node n).sibling ]

  -- n, or its sibling if it has one
  unfoldable pub or_sibling : ℕ → ℕ
  or_sibling n = elim (eqb (v.node n).sibling 0) [ true ↦ n | false ↦ (v.node n).sibling ]

  -- the last child of a node without sibling: the last that it names, or that one's sibling, which then lacks its slot
  abbrev pub last_child : ℕ → ℕ
  last_child n = or_sibling (last_or 0 (named v n))

  -- d levels down from n, by the last child
  unfoldable pub rightmost : ℕ → ℕ → ℕ
  rightmost zero n = n
  rightmost (suc d) n = rightmost d (last_child n)

-- the leftmost leaf; 0 if the root is too high
unfoldable pub first_leaf : View → ℕ
first_leaf v = elim (leb (height v) 15) [ true ↦ leftmost v (height v) v.root | false ↦ 0 ]

-- at most N leaves
unfoldable pub chain : View → List ℕ
chain v = along v v.nodes (first_leaf v)

-- the last leaf
unfoldable pub last_leaf : View → ℕ
last_leaf v = rightmost v (height v) v.root
