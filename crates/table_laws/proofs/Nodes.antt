-- The node numbers of a table, and what a number reads as.
use Rattle.std.proofs.Common.{◌≡◌, ℕ, ◌+◌, ◌*◌, ◌≤◌, true, false, ◌↔◌, length, take, drop, arith}
use Rattle.model.specs.Table.{Words, nodes, in_range, header_ok, node_start, has_node, node, node_from, blank, spare}
use Rattle.list_laws.proofs.Tools.{decode, same-test}
use Rattle.table_laws.proofs.Header.{HeadFacts, header-iff}

-- node i lies in the table exactly if i is at least 1 and the table has at least 8 + 32 times i words
pub has-node-iff : (t : Words) (i : ℕ) → (has_node t i ≡ true) ↔ ((1 ≤ i) × (8 + 32 * i ≤ length t))
unfolding has_node node_start
has-node-iff t i = (λ e. omega (arith, simp decode at e), λ u. simp decode (omega arith))

-- With an accepted header, whatever its roots, the node numbers are 1 to N.
pub has-node-head : (t : Words) (i : ℕ) → HeadFacts t → has_node t i ≡ in_range (nodes t) i
unfolding in_range
has-node-head t i f =
    same-test _ _ (
      λ e. simp decode (omega (arith, (has-node-iff t i).0 e, f.size.long)),
      λ e. (has-node-iff t i).1 (omega (arith, simp decode at e, f.size.long)),
    )

-- in a table whose header is right, the nodes that lie in it are those from 1 to N
pub has-node-range : (t : Words) (i : ℕ) → header_ok t ≡ true → has_node t i ≡ in_range (nodes t) i
has-node-range t i h = let f = (header-iff t).0 h in has-node-head t i (record { size = f.size; first = f.first; zeros = f.zeros })

-- a node that lies in the table is read from its start on
pub node-in : (t : Words) (i : ℕ) → has_node t i ≡ true → node t i ≡ node_from t (node_start i)
unfolding node
node-in t i h = rw h

-- words 4 to 7 of a node that lies in the table are the table's 4 words from its start + 4 on
pub spare-in : (t : Words) (i : ℕ) → has_node t i ≡ true → spare t i ≡ take 4 (drop (node_start i + 4) t)
unfolding spare
spare-in t i h = rw h

-- a number that no node has reads as a node of zeros
pub node-out : (t : Words) (i : ℕ) → has_node t i ≡ false → node t i ≡ blank
unfolding node
node-out t i h = rw h
