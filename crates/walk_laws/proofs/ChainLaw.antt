-- Where the root is right and every reached node in order, the leaves along the siblings are the leaves reached.
use Rattle.std.proofs.Common.{◌≡◌, ℕ, zero, suc, ◌≤◌, true, List, [], ◌∷◌, length, sym, refl, ap, ◌∙◌, arith, ne_eqb, le-leb}
use Rattle.model.specs.Slots.{View, height}
use Rattle.model.specs.Reached.{flat, head_or, children, leaves_from, leaves}
use Rattle.model.specs.SoundTest.{linked}
use Rattle.view_laws.proofs.NodeViews.{left_of}
use Rattle.list_laws.proofs.Tools.{Each}
use Rattle.tree_laws.proofs.Rows.{At, not-zero, linked-cons, first-child, head-children}
use Rattle.tree_laws.proofs.Levels.{Level, level-lower, level-down}
use Rattle.tree_laws.proofs.NextLaw.{leaves-few}
use Rattle.walk_laws.specs.Chain.{leftmost, along, first_leaf, chain}
use Rattle.walk_laws.proofs.WalkLaw.{InOrder, top-level, in-order-few}

-- from node 0 on there are no nodes along the siblings
pub along-none : (v : View) (c : ℕ) → along v c 0 ≡ []
unfolding along
along-none v zero = refl
along-none v (suc c) = refl

-- from a node other than 0 on come the node itself, then those from its sibling on
pub along-more : (v : View) (c n : ℕ) → (n ≡ 0 → ⊥) → along v (suc c) n ≡ n ∷ along v c (v.node n).sibling
unfolding along
along-more v c n z = rw (ne_eqb n 0 z, along)

-- a row that ends is what is passed from its first node on
pub along-row : (v : View) (d c : ℕ) (ns : List ℕ) → Each (At v d) ns → linked v ns 0 ≡ true → length ns ≤ c → along v c (head_or 0 ns) ≡ ns
along-row v d c [] a l h = along-none v c
along-row v d zero (n ∷ ns) a l h = absurd (omega arith)
along-row v d (suc c) (n ∷ ns) a l h =
    let u = (linked-cons v n ns 0).0 l in
    along-more v c n (not-zero v n a.0.range) ∙ ap (λ (k : ℕ). n ∷ along v c k) u.0
    ∙ ap (λ (ms : List ℕ). n ∷ ms) (along-row v d c ns a.1 u.1 (omega arith))

leftmost-head : (v : View) (d n : ℕ) (ns : List ℕ) → Level v d ns → head_or 0 ns ≡ n → leftmost v d n ≡ head_or 0 (leaves_from v d ns)
unfolding leftmost leaves_from
leftmost-head v zero n ns l e = sym e
leftmost-head v (suc d) n ns l e =
    let first : head_or 0 (flat (children v) ns) ≡ (v.node n).left =
    head-children v d ns l.row.at ∙ first-child v (head_or 0 ns) l.some ∙ ap (left_of v) e in
    leftmost-head v d (v.node n).left (flat (children v) ns) (level-lower v d ns l) first

first-leaf : (v : View) → height v ≤ 15 → first_leaf v ≡ leftmost v (height v) v.root
unfolding first_leaf
first-leaf v h = rw (le-leb (height v) 15 h, first_leaf)

-- in a tree in order, the leaves along the siblings from the leftmost one on are the leaves reached from the root
pub chain-leaves : (v : View) → InOrder v → chain v ≡ leaves v
unfolding chain
chain-leaves v o =
    let d = height v in
    let top = top-level v o in
    let low = (level-down v d 0 d (v.root ∷ []) (omega arith) top).row in
    let first = first-leaf v o.top.level ∙ leftmost-head v d v.root (v.root ∷ []) top refl in
    ap (along v v.nodes) first
    ∙ along-row v 0 v.nodes (leaves v) low.at low.chain (omega (arith, leaves-few v d (v.root ∷ []), in-order-few v o))
