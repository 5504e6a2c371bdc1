-- Document 01, "Table and node": the words of a table, its header, its nodes, and the empty table; request 6: one collection or two.
use Rattle.std.specs.Prelude.{Bool, true, cond, not, ◌&&◌, ◌||◌, List, [], ◌∷◌, ◌++◌, ℕ, ◌+◌, ◌-◌, ◌*◌, ◌/◌, leb, eqb, length, get_or, take, drop}
use Rattle.std.specs.Prelude.{replicate, Ok}
use Rattle.std.specs.Prelude.{set}
use Rattle.model.specs.Results.{Outcome, refused_with}
use Rattle.model.specs.declared.Node.{Node}

-- the largest word
abbrev pub MARK : ℕ
MARK = 18446744073709551615

-- the words of a table, of an order list or of a listing
abbrev pub Words : Type 0
Words = List ℕ

-- the word at an index; 0 past the end
abbrev pub at : Words → ℕ → ℕ
at t w = get_or t w 0

-- Eight words from a multiple of 8 are a line.
abbrev pub line : ℕ → ℕ
line w = w / 8

-- ---- the length and the header

-- A table is 8 + 32 times N words long, N from 1 to 65,535.
unfoldable pub table_length : ℕ → ℕ
table_length n = 8 + 32 * n

-- the N of a slice of this length, if it has one
unfoldable pub nodes_for : ℕ → ℕ
nodes_for len = (len - 8) / 32

unfoldable pub length_ok : ℕ → Bool
length_ok len = eqb len (table_length (nodes_for len)) && leb 1 (nodes_for len) && leb (nodes_for len) 65535

-- header words: the root's node number, and N
abbrev pub root : Words → ℕ
root t = at t 1

abbrev pub nodes : Words → ℕ
nodes t = at t 2

-- Collection n's root stands in header word 1 or 3.
abbrev pub root_word : (n : ℕ) → ℕ
root_word n = 2 * n - 1

-- a node number: 1 to N
unfoldable pub in_range : ℕ → ℕ → Bool
in_range n i = leb 1 i && leb i n

unfoldable pub all_zero : Words → Bool
all_zero [] = true
all_zero (w ∷ ws) = eqb w 0 && all_zero ws

-- Word 3 is 0 for no second collection, else its root's node number, and then N is not 1.
abbrev pub second_ok : Words → Bool
second_ok t = eqb (at t 3) 0 || (leb (at t 3) (nodes t) && leb 2 (nodes t))

-- Word 0 is 1; word 1 the root's node number; word 2 is N; word 3 the second root's; words 4 to 7 are 0.
unfoldable pub header_ok : Words → Bool
header_ok t =
    length_ok (length t) && (eqb (at t 0) 1 && (eqb (nodes t) (nodes_for (length t)) && (all_zero (take 4 (drop 4 t))
    && (in_range (nodes t) (root t) && second_ok t))))

-- what the header test answers: 0, or 2 for a wrong length or header, or a root outside 1 to N
unfoldable pub header_number : Words → ℕ
header_number t = cond (header_ok t) 0 2

-- 17: the collection is not 1 or 2, or it is 2 where word 3 is 0
unfoldable pub no_collection : (n : ℕ) → Words → Bool
no_collection n t = not (eqb n 1) && (not (eqb n 2) || eqb (at t 3) 0)

-- ---- nodes

-- A node's 32 words are four lines; its 12 slots are a key word and a pointer word each:
--
--      0 left    1 sibling    2 level    3 fence    4 to 7: 0
--      8 key     9 pointer   10 key     11 pointer   ..   14 key   15 pointer     slots 0 to 3
--     16 key    17 pointer   18 key     19 pointer   ..   22 key   23 pointer     slots 4 to 7
--     24 key    25 pointer   26 key     27 pointer   ..   30 key   31 pointer     slots 8 to 11

-- Node i begins at word 8 + 32 times (i − 1).
unfoldable pub node_start : ℕ → ℕ
node_start i = 8 + 32 * (i - 1)

-- node i lies in the table
unfoldable pub has_node : Words → ℕ → Bool
has_node t i = leb 1 i && leb (node_start i + 32) (length t)

-- a node of zeros; what a number that no node has reads as
unfoldable pub blank : Node
blank = record { left = 0; sibling = 0; level = 0; fence = 0; slots = replicate 24 0 }

-- the node that begins at word w: left, right sibling, level, fence; words 4 to 7; then 12 slots, a key word and a pointer word each
unfoldable pub node_from : Words → ℕ → Node
node_from t w =
    record { left = at t w; sibling = at t (w + 1); level = at t (w + 2); fence = at t (w + 3); slots = take 24 (drop (w + 8) t) }

-- A node is read into one record that holds its slots.
unfoldable pub node : Words → ℕ → Node
node t i = cond (has_node t i) (node_from t (node_start i)) blank

-- words 4 to 7 of node i; none for a number that no node has
unfoldable pub spare : Words → ℕ → Words
spare t i = cond (has_node t i) (take 4 (drop (node_start i + 4) t)) []

-- ---- the empty table

-- An empty table has root 1, a leaf with left MARK; every other node word is 0.
unfoldable pub empty : ℕ → Words
empty n = (1 ∷ 1 ∷ n ∷ replicate 5 0) ++ (MARK ∷ replicate (32 * n - 1) 0)

-- With two collections nodes 1 and 2 are empty leaves.
unfoldable pub empty_of : (n N : ℕ) → Words
empty_of n N = cond (eqb n 2) (set (set (empty N) 3 2) (node_start 2) MARK) (empty N)

-- Making a table of n collections: 2 for a wrong length, or two collections with N = 1; then 17, if n is not 1 or 2; else 0.
unfoldable pub make_number : (n : ℕ) → Words → ℕ
make_number n t =
    cond (not (length_ok (length t)) || (eqb n 2 && eqb (nodes_for (length t)) 1)) 2 (cond (not (eqb n 1 || eqb n 2)) 17 0)

-- what it answers, and the words that it leaves
unfoldable pub making : (n : ℕ) → Words → Outcome
making n t = cond (eqb (make_number n t) 0) (Ok tt) (refused_with (make_number n t))

unfoldable pub made : (n : ℕ) → Words → Words
made n t = cond (eqb (make_number n t) 0) (empty_of n (nodes_for (length t))) t
