-- The view of a table with each node's words read once: the same view, at a fraction of the steps.
use Rattle.std.proofs.Common.{◌≡◌, ℕ, zero, suc, ◌+◌, ◌*◌, ◌<◌, ◌≤◌, Bool, true, false, cond, ◌&&◌, eqb, leb, List, [], ◌∷◌, length, get_or}
use Rattle.std.proofs.Common.{take, drop, refl, ap, ◌∙◌, le_of_suc-le-suc, not-suc-le-zero, add_assoc, add_comm, mul-suc, sub-one, arith}
use Rattle.std.proofs.Common.{get_or-drop, drop-drop, eqb-true, leb-false, leb-true}
use mathlib.Core.Path.{fun_ext}
use lib.Dec.{leb-suc-suc, leb-zero}
use Rattle.model.specs.declared.Node.{Node}
use Rattle.model.specs.Table.{Words, all_zero, blank, nodes, root, table_length, node_start, has_node, node, node_from, spare}
use Rattle.model.specs.Slots.{slots_of, in_use, shown, hidden_slots, used, clear_in, NodeView, View, view}

-- what a view says of one node, by the words read once
abbrev pub read_node : Node → Words → NodeView
read_node n spares =
    let ss = in_use (slots_of n.slots) in
    let visible = shown n.left ss in
    let count = length (hidden_slots n.left ss) in
    let clear = all_zero spares && eqb (get_or n.slots 23 0) 0 in
    record { left = n.left; sibling = n.sibling; level = n.level; fence = n.fence; shown = visible; hidden = count; clear = clear }

abbrev pub view_by : (n r : ℕ) → (ℕ → NodeView) → View
view_by n r g = record { nodes = n; root = r; node = g }

-- n nodes, the first at word 0
abbrev pub row : (n : ℕ) → Words → List NodeView
row zero ws = []
row (suc n) ws = read_node (node_from ws 0) (take 4 (drop 4 ws)) ∷ row n (drop 32 ws)

-- by number: 0, which no node has; then nodes 1 to N
abbrev pub node_views : Words → List NodeView
node_views t = read_node blank [] ∷ row (nodes t) (drop 8 t)

-- the view of words of the length that their header says, or not
abbrev pub quick_by : Words → Bool → View
quick_by t true = let ns = node_views t in view_by (nodes t) (root t) (λ (i : ℕ). get_or ns i (read_node blank []))
quick_by t false = view t

-- the view of a table, with each node's words read once
unfoldable pub quick : Words → View
quick t = quick_by t (eqb (length t) (table_length (nodes t)))

-- ---- quick is view

from-drop : (a w : ℕ) (ws : Words) → node_from (drop a ws) w ≡ node_from ws (a + w)
unfolding node_from
from-drop a w ws = simp (get_or-drop, drop-drop, add_assoc)

row-at : (n i : ℕ) (ws : Words) (d : NodeView) → i < n
    → get_or (row n ws) i d ≡ read_node (node_from ws (32 * i)) (take 4 (drop (32 * i + 4) ws))
row-at zero i ws d h = absurd (not-suc-le-zero h)
row-at (suc n) zero ws d h = refl
row-at (suc n) (suc i) ws d h =
    row-at n i (drop 32 ws) d (le_of_suc-le-suc h) ∙ simp (from-drop, drop-drop, mul-suc, add_assoc, add_comm 32)

past : (n i : ℕ) (ws : Words) (d : NodeView) → n ≤ i → get_or (row n ws) i d ≡ d
past zero i ws d h = refl
past (suc n) zero ws d h = absurd (not-suc-le-zero h)
past (suc n) (suc i) ws d h = past n i (drop 32 ws) d (le_of_suc-le-suc h)

-- by whether the table has node i + 1
read-next : (t : Words) → length t ≡ 8 + 32 * nodes t → (i : ℕ) (b : Bool) → leb (8 + 32 * i + 32) (length t) ≡ b
    → get_or (row (nodes t) (drop 8 t)) i (read_node blank [])
    ≡ read_node (cond b (node_from t (8 + 32 * i)) blank) (cond b (take 4 (drop (8 + 32 * i + 4) t)) [])
read-next t e i true h =
    let le : 8 + 32 * i + 32 ≤ length t = leb-true (8 + 32 * i + 32) (length t) h in
    row-at (nodes t) i (drop 8 t) (read_node blank []) (omega (arith, e, le)) ∙ simp (from-drop, drop-drop, add_assoc)
read-next t e i false h =
    let lt : length t < 8 + 32 * i + 32 = leb-false (8 + 32 * i + 32) (length t) h in
    past (nodes t) i (drop 8 t) (read_node blank []) (omega (arith, e, lt))

read : (t : Words) → length t ≡ table_length (nodes t) → (i : ℕ)
    → get_or (node_views t) i (read_node blank []) ≡ read_node (node t i) (spare t i)
unfolding table_length node spare node_start has_node
read t e zero = refl
read t e (suc i) = simp (leb-suc-suc 0 i, leb-zero, sub-one) (read-next t e i (leb (8 + 32 * i + 32) (length t)) refl)

plain : (t : Words) → view_by (nodes t) (root t) (λ (i : ℕ). read_node (node t i) (spare t i)) ≡ view t
unfolding used clear_in
plain t = refl

quick-by : (t : Words) (b : Bool) → eqb (length t) (table_length (nodes t)) ≡ b → quick_by t b ≡ view t
quick-by t true e = ap (view_by (nodes t) (root t)) (fun_ext (read t (eqb-true (length t) (table_length (nodes t)) e))) ∙ plain t
quick-by t false e = refl

pub quick-is-view : quick ≡ view
unfolding quick
quick-is-view = fun_ext (λ (t : Words). quick-by t (eqb (length t) (table_length (nodes t))) refl)
