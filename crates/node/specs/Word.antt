-- The number of nodes by a slice's length, a collection's root, where a node begins, and one word of a node.
use Rattle.std.specs.Prelude.{cond, ◌&&◌, ℕ, ◌+◌, ltb, take, drop, Result, Ok}
use Rattle.model.specs.declared.Refusal.{Refusal}
use Rattle.model.specs.Results.{refused_with}
use Rattle.model.specs.Refusals.{unless_refused}
use Rattle.model.specs.Table.{Words, at, length_ok, nodes_for, header_ok, root_word, no_collection, node_start, has_node}

-- the N of a slice of this length; 0 for a wrong length
unfoldable pub nodes_in : ℕ → ℕ
nodes_in len = cond (length_ok len) (nodes_for len) 0

-- collection n's root; 0 if the header is refused, or if there is no such collection
unfoldable pub root_in : (n : ℕ) → Words → ℕ
root_in n t = cond (header_ok t) (cond (no_collection n t) 0 (at t (root_word n))) 0

-- 2 if the header is refused, 17 if there is no such collection, else 0
unfoldable pub number_in : (n : ℕ) → Words → ℕ
number_in n t = cond (header_ok t) (cond (no_collection n t) 17 0) 2

-- its root, or that refusal
unfoldable pub found_root : (n : ℕ) → Words → Result ℕ Refusal
found_root n t = unless_refused (number_in n t) (Ok (root_in n t)) (refused_with (number_in n t))

-- the index of node i's first word; 0 for a number that no node has
unfoldable pub start_of : Words → ℕ → ℕ
start_of t i = cond (has_node t i) (node_start i) 0

-- the words of node i
abbrev pub words_at : Words → ℕ → Words
words_at t i = take 32 (drop (node_start i) t)

-- word j of node i; 0 past the node's end and for a number that no node has
unfoldable pub word_of : Words → ℕ → ℕ → ℕ
word_of t i j = cond (has_node t i && ltb j 32) (at t (node_start i + j)) 0
