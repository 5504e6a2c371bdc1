-- Nodes marked as bits: which marks are allowed, and which the functions of this crate set.
use Rattle.std.specs.Prelude.{◌≡◌, true, cond, not, ◌&&◌, List, [], ◌∷◌, ℕ, ◌+◌, ◌-◌, eqb, ltb, length}
use Rattle.model.specs.Table.{Words, at, nodes}
use Rattle.model.specs.Slots.{View, node_view, view, height}
use Rattle.model.specs.Reached.{flat, head_or, named, leaves_from, trees, reached_all}
use Rattle.model.specs.SoundTest.{elem}
use Rattle.model.specs.Writes.{numbers, unreached}
use Rattle.walk_laws.specs.Chain.{leftmost}
use Rattle.bits.specs.Bits.{has, put}

-- words for a bit of each node
abbrev pub MARKS : ℕ
MARKS = 1024

-- node n is reached from either root
abbrev pub Taken : Words → (n : ℕ) → Type 0
Taken t n = elem n (reached_all t) ≡ true

-- whatever is marked is reached; not all that is reached need be marked
abbrev pub AllTaken : (t marks : Words) → Type 0
AllTaken t marks = (n : ℕ) → has marks n ≡ true → Taken t n

-- a bit for each node, none of them set for one that is not reached
abbrev pub Marked : (t marks : Words) → Type 0
Marked t marks = (length marks ≡ MARKS) × AllTaken t marks

-- ---- the marks that are set

-- numbers marked one by one
unfoldable pub put_all : List ℕ → (marks : Words) → Words
put_all [] marks = marks
put_all (n ∷ ns) marks = put_all ns (put marks n)

-- the children that node n names, if it is reached and no leaf
unfoldable pub named_by : Words → (n : ℕ) → List ℕ
named_by t n = cond (eqb (node_view t n).level 0) [] (cond (elem n (reached_all t)) (named (view t) n) [])

-- the leftmost node of the level above the leaves; a root that is a leaf
unfoldable pub first_parent : View → ℕ
first_parent v = leftmost v (height v - 1) v.root

-- the leaves of a tree that the nodes of that level name: all but a root and one that lacks its slot
unfoldable pub named_leaves : View → List ℕ
named_leaves v = cond (eqb (height v) 0) [] (flat (named v) (leaves_from v (height v - 1) (v.root ∷ [])))

-- those of all trees and the root, unless it is marked: then they were
unfoldable pub marked_once : (t marks : Words) → Words
marked_once t marks = cond (has marks (at t 1)) marks (put (put_all (flat named_leaves (trees t)) marks) (at t 1))

-- node n, if it is reached and not marked
unfoldable pub marked_if : (t marks : Words) → (n : ℕ) → Words
marked_if t marks n = cond (elem n (reached_all t)) (cond (has marks n) marks (put marks n)) marks

-- nodes looked at one by one, up to the first that is not reached
unfoldable pub looked_at : Words → List ℕ → (marks : Words) → Words
looked_at t [] marks = marks
looked_at t (n ∷ ns) marks = cond (elem n (reached_all t)) (looked_at t ns (marked_if t marks n)) marks

-- the nodes of two rows, of the second only if all of the first are reached
unfoldable pub looked_round : Words → (ns ms : List ℕ) → (marks : Words) → Words
looked_round t ns ms marks = cond (eqb (head_or 0 (unreached t ns)) 0) (looked_at t ms (looked_at t ns marks)) (looked_at t ns marks)

-- the marks after the search for a fresh node after node a, going round; they stay if the next node is one
unfoldable pub fresh_round : (t marks : Words) → (a : ℕ) → Words
fresh_round t marks a = looked_round t (numbers (a + 1) (nodes t - a)) (numbers 1 (a - 1)) (marked_once t marks)

unfoldable pub fresh_marks : (t marks : Words) → (a : ℕ) → Words
fresh_marks t marks a = cond (ltb a (nodes t) && not (elem (a + 1) (reached_all t))) marks (fresh_round t marks a)
