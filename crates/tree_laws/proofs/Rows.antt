-- Rows of nodes: the children of a row of good nodes are a row.
use Rattle.std.proofs.Common.{◌≡◌, ℕ, zero, suc, ◌<◌, ◌≤◌, Bool, true, false, eqb, ◌↔◌, List, [], ◌∷◌, ◌++◌, sym, refl, ap, ◌∙◌, arith}
use Rattle.std.proofs.Common.{eq-eqb, ne_eqb, eqb-true}
use mathlib.Core.List.{Memᴰ}
use Rattle.model.specs.Table.{in_range}
use Rattle.model.specs.Slots.{Slot, View}
use Rattle.model.specs.Reached.{flat, head_or, pointers, kept, named, first_child, next_child, fill_row, children, reached_from}
use Rattle.model.specs.Reached.{leaves_from}
use Rattle.model.specs.SoundTest.{all, sibling_ok, rising, linked, child_ok, slot_ok, leaf_ok, inner_ok, node_ok, keys_ok}
use Rattle.list_laws.proofs.Tools.{decode, and-iff, Each, Each-append, Each-split, all-each}
use Rattle.list_laws.proofs.Members.{flat-each}

-- node n passes its test
abbrev pub Good : View → ℕ → Type 0
Good v n = node_ok v n ≡ true

pub record At (v : View) (d n : ℕ) : Type 0 where
  pub range : in_range v.nodes n ≡ true
  pub level : (v.node n).level ≡ d

pub record Row (v : View) (d : ℕ) (ns : List ℕ) : Type 0 where
  pub good : Each (Good v) ns
  pub at : Each (At v d) ns
  pub chain : linked v ns 0 ≡ true

-- a number is in range exactly if it is from 1 to n
pub range-iff : (n i : ℕ) → (in_range n i ≡ true) ↔ ((1 ≤ i) × (i ≤ n))
unfolding in_range
range-iff n i = (λ h. simp decode at h, λ h. simp decode h)

-- a number from 1 to N is not 0
pub not-zero : (v : View) (n : ℕ) → in_range v.nodes n ≡ true → n ≡ 0 → ⊥
not-zero v n h e = let g = ((range-iff v.nodes n).0 h).0 in omega arith

pub record SibFacts (v : View) (n : ℕ) : Type 0 where
  pub range : in_range v.nodes (v.node n).sibling ≡ true
  pub level : (v.node (v.node n).sibling).level ≡ (v.node n).level
  pub fence : (v.node n).fence < (v.node (v.node n).sibling).fence

-- the sibling of a good node, if it has one, is from 1 to N, on the node's level, with a higher fence
pub sib-facts : (v : View) (n : ℕ) → Good v n → ((v.node n).sibling ≡ 0 → ⊥) → SibFacts v n
unfolding node_ok sibling_ok
sib-facts v n g z =
    let h = (simp and-iff at g).1.0 in
    let u = rw (ne_eqb (v.node n).sibling 0 z) at h in
    let w = simp decode at u in
    record { range = w.0; level = w.1.0; fence = w.1.1 }

-- a good node above level 0 passes the test of inner nodes
pub inner-ok : (v : View) (d n : ℕ) → Good v n → (v.node n).level ≡ suc d → inner_ok v n ≡ true
unfolding node_ok
inner-ok v d n g e = rw (ne_eqb (v.node n).level 0 (λ z. omega arith)) at (simp and-iff at g).1.1

-- a good node of level 0 passes the test of leaves
pub leaf-ok : (v : View) (n : ℕ) → Good v n → (v.node n).level ≡ 0 → leaf_ok v n ≡ true
unfolding node_ok
leaf-ok v n g e = rw (eq-eqb (v.node n).level 0 e) at (simp and-iff at g).1.1

pub record Named (v : View) (d : ℕ) (s : Slot) : Type 0 where
  pub level : (v.node s.pointer).level ≡ d
  pub fence : (v.node s.pointer).fence ≡ s.key

-- a leaf has no children
pub no-children : (v : View) (n : ℕ) → (v.node n).level ≡ 0 → children v n ≡ []
unfolding children
no-children v n e = rw (eq-eqb (v.node n).level 0 e, children)

-- the children of a node above level 0 are those that it names, with each sibling that lacks its slot put in
pub children-inner : (v : View) (d n : ℕ) → (v.node n).level ≡ suc d → children v n ≡ fill_row v (named v n) (next_child v n)
unfolding children
children-inner v d n e = rw (ne_eqb (v.node n).level 0 (λ z. omega arith), children)

pub record Inner (v : View) (d n : ℕ) : Type 0 where
  pub rise : rising (suc (v.node n).fence) (kept v n) ≡ true
  pub left_level : (v.node (v.node n).left).level ≡ d
  pub left_fence : (v.node (v.node n).left).fence ≡ (v.node n).fence
  pub names : Each (Named v d) (kept v n)
  pub range : all (in_range v.nodes) (children v n) ≡ true
  pub chain : linked v (children v n) (next_child v n) ≡ true
  pub kids : children v n ≡ fill_row v (named v n) (next_child v n)

named-facts : (v : View) (l d : ℕ) (ss : List Slot) → l ≡ suc d → all (slot_ok v l) ss ≡ true → Each (Named v d) ss
unfolding all slot_ok child_ok
named-facts v l d [] e h = tt
named-facts v l d (s ∷ ss) e h = let w = simp decode at h in (record { level = omega arith; fence = w.0.1 }, named-facts v l d ss e w.1)

-- in a good inner node, kept keys rise above its fence, its children stand one level below, in range and linked
pub inner : (v : View) (d n : ℕ) → Good v n → (v.node n).level ≡ suc d → Inner v d n
unfolding inner_ok child_ok keys_ok
inner v d n g e =
    let h = simp decode at (inner-ok v d n g e) in
    record {
      rise = h.0.0;
      left_level = omega arith;
      left_fence = h.1.0.1;
      names = named-facts v _ d _ e h.1.1.0;
      range = h.1.1.1.0;
      chain = h.1.1.1.1;
      kids = children-inner v d n e;
    }

-- if the next node of the row is n's sibling, the filled row has n alone before the rest
pub link-yes : (v : View) (n : ℕ) (ns : List ℕ) (e : ℕ) → eqb (v.node n).sibling (head_or e ns) ≡ true
    → fill_row v (n ∷ ns) e ≡ n ∷ fill_row v ns e
unfolding fill_row
link-yes v n ns e c = rw (c, fill_row)

-- if it is not, the filled row has n and its sibling before the rest
pub link-no : (v : View) (n : ℕ) (ns : List ℕ) (e : ℕ) → eqb (v.node n).sibling (head_or e ns) ≡ false → fill_row v (n ∷ ns) e ≡ n
    ∷ (v.node n).sibling ∷ fill_row v ns e
unfolding fill_row
link-no v n ns e c = rw (c, fill_row)

-- what holds of a linked row holds of its rest
pub link-tail : (v : View) (P : ℕ → Type 0) (n : ℕ) (ns : List ℕ) (e : ℕ) → Each P (fill_row v (n ∷ ns) e) → Each P (fill_row v ns e)
link-tail v P n ns e h = go (eqb (v.node n).sibling (head_or e ns)) refl
  where
    go : (b : Bool) → eqb (v.node n).sibling (head_or e ns) ≡ b → Each P (fill_row v ns e)
    go true c = (rw (link-yes v n ns e c) at h).1
    go false c = (rw (link-no v n ns e c) at h).1.1

-- what holds of each node of a filled row holds of the first node of the row
pub link-head : (v : View) (P : ℕ → Type 0) (n : ℕ) (ns : List ℕ) (e : ℕ) → Each P (fill_row v (n ∷ ns) e) → P n
link-head v P n ns e h = go (eqb (v.node n).sibling (head_or e ns)) refl
  where
    go : (b : Bool) → eqb (v.node n).sibling (head_or e ns) ≡ b → P n
    go true c = (rw (link-yes v n ns e c) at h).0
    go false c = (rw (link-no v n ns e c) at h).0

-- the children stand one level down
link-at : (v : View) (d : ℕ) (ns : List ℕ) (e : ℕ) → Each (λ (n : ℕ). (v.node n).level ≡ d) ns → all (in_range v.nodes) (fill_row v ns e)
    ≡ true → Each (Good v) (fill_row v ns e) → Each (At v d) (fill_row v ns e)
unfolding fill_row all
link-at v d [] e l r g = tt
link-at v d (n ∷ ns) e l r g = go (eqb (v.node n).sibling (head_or e ns)) refl r g (link-at v d ns e l.1)
  where
    go : (b : Bool) → eqb (v.node n).sibling (head_or e ns) ≡ b → all (in_range v.nodes) (fill_row v (n ∷ ns) e) ≡ true
        → Each (Good v) (fill_row v (n ∷ ns) e)
        → (all (in_range v.nodes) (fill_row v ns e) ≡ true → Each (Good v) (fill_row v ns e) → Each (At v d) (fill_row v ns e))
        → Each (At v d) (fill_row v (n ∷ ns) e)
    go true c r g ih =
        let q = link-yes v n ns e c in
        let u = simp and-iff at (rw q at r) in
        let w = rw q at g in
        rw q (record { range = u.0; level = l.0 }, ih u.1 w.1)
    go false c r g ih =
        let q = link-no v n ns e c in
        let u = simp and-iff at (rw q at r) in
        let w = rw q at g in
        rw q (
          record { range = u.0; level = l.0 },
          (record { range = u.1.0; level = (sib-facts v n w.0 (not-zero v _ u.1.0)).level ∙ l.0 }, ih u.1.1 w.1.1),
        )

names-level : (v : View) (d : ℕ) (ss : List Slot) → Each (Named v d) ss → Each (λ (n : ℕ). (v.node n).level ≡ d) (pointers ss)
names-level v d [] h = tt
names-level v d (s ∷ ss) h = (h.0.level, names-level v d ss h.1)

children-at : (v : View) (d n : ℕ) → Inner v d n → Each (Good v) (children v n) → Each (At v d) (children v n)
children-at v d n i g =
    rw i.kids (link-at v d (named v n) (next_child v n) (i.left_level, names-level v d (kept v n) i.names)
    (rw i.kids at i.range) (rw i.kids at g))

-- the left of a good inner node is from 1 to N
pub left-range : (v : View) (d n : ℕ) → Inner v d n → in_range v.nodes (v.node n).left ≡ true
left-range v d n i =
    link-head v (λ (x : ℕ). in_range v.nodes x ≡ true) (v.node n).left (pointers (kept v n)) (next_child v n)
    ((all-each (in_range v.nodes) _).0 (rw i.kids at i.range))

-- linked rows join
pub linked-cons : (v : View) (n : ℕ) (ns : List ℕ) (e : ℕ)
    → (linked v (n ∷ ns) e ≡ true) ↔ (((v.node n).sibling ≡ head_or e ns) × (linked v ns e ≡ true))
unfolding linked
linked-cons v n ns e = (λ h. let u = (and-iff _ _).0 h in (eqb-true _ _ u.0, u.1), λ u. (and-iff _ _).1 (eq-eqb _ _ u.0, u.1))

pub chain-tail : (v : View) (n : ℕ) (ns : List ℕ) (e z : ℕ) → linked v (fill_row v (n ∷ ns) e) z ≡ true
    → linked v (fill_row v ns e) z ≡ true
chain-tail v n ns e z h = go (eqb (v.node n).sibling (head_or e ns)) refl
  where
    go : (b : Bool) → eqb (v.node n).sibling (head_or e ns) ≡ b → linked v (fill_row v ns e) z ≡ true
    go true c = ((linked-cons v _ _ z).0 (rw (link-yes v n ns e c) at h)).1
    go false c = ((linked-cons v _ _ z).0 ((linked-cons v _ _ z).0 (rw (link-no v n ns e c) at h)).1).1

-- the first of a joined list is that of the first part, or if there is none that of the second
pub head-append : (e : ℕ) (xs ys : List ℕ) → head_or (head_or e ys) xs ≡ head_or e (xs ++ ys)
head-append e [] ys = refl
head-append e (x ∷ xs) ys = refl

-- two linked rows, the second following the first, are one linked row
pub linked-append : (v : View) (xs ys : List ℕ) (e : ℕ) → linked v xs (head_or e ys) ≡ true → linked v ys e ≡ true
    → linked v (xs ++ ys) e ≡ true
linked-append v [] ys e a b = b
linked-append v (x ∷ xs) ys e a b = let u =
    (linked-cons v x xs _).0 a in (linked-cons v x (xs ++ ys) e).1 (u.0 ∙ head-append e xs ys, linked-append v xs ys e u.1 b)

head-link : (v : View) (n : ℕ) (ns : List ℕ) (e z : ℕ) (r : List ℕ) → head_or z (fill_row v (n ∷ ns) e ++ r) ≡ n
unfolding fill_row
head-link v n ns e z r = go (eqb (v.node n).sibling (head_or e ns)) refl
  where
    go : (b : Bool) → eqb (v.node n).sibling (head_or e ns) ≡ b → head_or z (fill_row v (n ∷ ns) e ++ r) ≡ n
    go true c = rw (c, fill_row)
    go false c = rw (c, fill_row)

-- filling a row keeps its first node
pub head-row : (v : View) (ns : List ℕ) (e z : ℕ) → head_or z (fill_row v ns e) ≡ head_or z ns
unfolding fill_row
head-row v [] e z = refl
head-row v (n ∷ ns) e z = go (eqb (v.node n).sibling (head_or e ns)) refl
  where
    go : (b : Bool) → eqb (v.node n).sibling (head_or e ns) ≡ b → head_or z (fill_row v (n ∷ ns) e) ≡ n
    go true c = rw (c, fill_row)
    go false c = rw (c, fill_row)

-- the first child of a node other than 0 is its left
pub first-child : (v : View) (n : ℕ) → (n ≡ 0 → ⊥) → first_child v n ≡ (v.node n).left
unfolding first_child
first-child v n z = rw (ne_eqb n 0 z, first_child)

-- the first of a row's children is the left of the row's first node; 0 for an empty row
pub head-children : (v : View) (d : ℕ) (ns : List ℕ) → Each (At v (suc d)) ns → head_or 0 (flat (children v) ns)
    ≡ first_child v (head_or 0 ns)
unfolding flat
head-children v d [] h = unfold first_child in refl
head-children v d (n ∷ ns) h =
    rw (children-inner v d n h.0.level) (head-link v (v.node n).left _ _ 0 _) ∙ sym (first-child v n (not-zero v n h.0.range))

-- the children of a row, one row down
pub inners : (v : View) (d : ℕ) (ns : List ℕ) → Each (Good v) ns → Each (At v (suc d)) ns → Each (Inner v d) ns
inners v d [] g a = tt
inners v d (n ∷ ns) g a = (inner v d n g.0 a.0.level, inners v d ns g.1 a.1)

lower-at : (v : View) (d : ℕ) (ns : List ℕ) → Each (Inner v d) ns → Each (Good v) (flat (children v) ns)
    → Each (At v d) (flat (children v) ns)
unfolding flat
lower-at v d [] i g = tt
lower-at v d (n ∷ ns) i g =
    let u = Each-split (Good v) (children v n) (flat (children v) ns) g in
    Each-append (At v d) (children v n) _ (children-at v d n i.0 u.0) (lower-at v d ns i.1 u.1)

lower-chain : (v : View) (d : ℕ) (ns : List ℕ) → Each (Inner v d) ns → Each (At v (suc d)) ns → linked v ns 0 ≡ true
    → linked v (flat (children v) ns) 0 ≡ true
unfolding flat
lower-chain v d [] i a c = c
lower-chain v d (n ∷ ns) i a c =
    let u = (linked-cons v n ns 0).0 c in
    linked-append v (children v n) (flat (children v) ns) 0 (rw (head-children v d ns a.1, ← u.0) i.0.chain)
    (lower-chain v d ns i.1 a.1 u.1)

-- every node reached from the row is good
abbrev pub Deep : View → ℕ → List ℕ → Type 0
Deep v d ns = Each (Good v) (reached_from v d ns)

-- what holds of each node reached from a row holds of each node of the row
pub each-here : (v : View) (P : ℕ → Type 0) (d : ℕ) (ns : List ℕ) → Each P (reached_from v d ns) → Each P ns
unfolding reached_from
each-here v P zero ns h = h
each-here v P (suc d) ns h = (Each-split P ns (reached_from v d (flat (children v) ns)) h).0

-- what holds of each node reached from a row holds of each one reached from its children
pub each-lower : (v : View) (P : ℕ → Type 0) (d : ℕ) (ns : List ℕ) → Each P (reached_from v (suc d) ns)
    → Each P (reached_from v d (flat (children v) ns))
unfolding reached_from
each-lower v P d ns h = (Each-split P ns (reached_from v d (flat (children v) ns)) h).1

abbrev pub deep-here : (v : View) (d : ℕ) (ns : List ℕ) → Deep v d ns → Each (Good v) ns
deep-here v = each-here v (Good v)

abbrev pub deep-lower : (v : View) (d : ℕ) (ns : List ℕ) → Deep v (suc d) ns → Deep v d (flat (children v) ns)
deep-lower v = each-lower v (Good v)

pub row-lower : (v : View) (d : ℕ) (ns : List ℕ) → Row v (suc d) ns → Deep v (suc d) ns → Row v d (flat (children v) ns)
row-lower v d ns r h =
    let i = inners v d ns r.good r.at in
    let g = deep-here v d _ (deep-lower v d ns h) in
    record { good = g; at = lower-at v d ns i g; chain = lower-chain v d ns i r.at r.chain }

-- the row of the leaves
pub leaf-row : (v : View) (d : ℕ) (ns : List ℕ) → Row v d ns → Deep v d ns → Row v 0 (leaves_from v d ns)
unfolding leaves_from
leaf-row v zero ns r h = r
leaf-row v (suc d) ns r h = leaf-row v d (flat (children v) ns) (row-lower v d ns r h) (deep-lower v d ns h)

-- what holds of every reached node holds of every leaf
pub each-leaf : (v : View) (P : ℕ → Type 0) (d : ℕ) (ns : List ℕ) → Each P (reached_from v d ns) → Each P (leaves_from v d ns)
unfolding leaves_from
each-leaf v P zero ns h = each-here v P zero ns h
each-leaf v P (suc d) ns h = each-leaf v P d (flat (children v) ns) (each-lower v P d ns h)

-- a row that is filled up keeps its nodes
pub fill-mem : (v : View) {n : ℕ} {ns : List ℕ} (e : ℕ) → Memᴰ n ns → Memᴰ n (fill_row v ns e)
fill-mem v {n = n} e (Memᴰ.head {x = m} {xs = ms} q) = go (eqb (v.node m).sibling (head_or e ms)) refl
  where
    go : (b : Bool) → eqb (v.node m).sibling (head_or e ms) ≡ b → Memᴰ n (fill_row v (m ∷ ms) e)
    go true c = rw (link-yes v m ms e c) (Memᴰ.head q)
    go false c = rw (link-no v m ms e c) (Memᴰ.head q)
fill-mem v {n = n} e (Memᴰ.tail {x = m} {xs = ms} t) = go (eqb (v.node m).sibling (head_or e ms)) refl (fill-mem v e t)
  where
    go : (b : Bool) → eqb (v.node m).sibling (head_or e ms) ≡ b → Memᴰ n (fill_row v ms e) → Memᴰ n (fill_row v (m ∷ ms) e)
    go true c ih = rw (link-yes v m ms e c) (Memᴰ.tail ih)
    go false c ih = rw (link-no v m ms e c) (Memᴰ.tail (Memᴰ.tail ih))

-- views whose children agree on the nodes of one list the same nodes
module _ (v w : View) where
  -- n has the same children in both trees
  abbrev pub SameChildren : ℕ → Type 0
  SameChildren n = children w n ≡ children v n

  -- if each node reached from a row has the same children in both trees, the same nodes are reached in both
  pub reached-agree : (d : ℕ) (ns : List ℕ) → Each SameChildren (reached_from v d ns) → reached_from w d ns ≡ reached_from v d ns
  unfolding reached_from
  reached-agree zero ns h = refl
  reached-agree (suc d) ns h =
      let u = Each-split SameChildren ns (reached_from v d (flat (children v) ns)) h in
      ap (λ (l : List ℕ). ns ++ l)
      (ap (reached_from w d) (flat-each (children w) (children v) ns u.0) ∙ reached-agree d (flat (children v) ns) u.1)

  -- if each node reached from a row has the same children in both trees, the same leaves are reached in both
  pub leaves-agree : (d : ℕ) (ns : List ℕ) → Each SameChildren (reached_from v d ns) → leaves_from w d ns ≡ leaves_from v d ns
  unfolding leaves_from
  leaves-agree zero ns h = refl
  leaves-agree (suc d) ns h =
      ap (leaves_from w d) (flat-each (children w) (children v) ns (each-here v SameChildren (suc d) ns h))
      ∙ leaves-agree d (flat (children v) ns) (each-lower v SameChildren d ns h)
