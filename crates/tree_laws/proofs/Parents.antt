-- Reached nodes beside and below each other: siblings and children of reached nodes are reached.
use Rattle.std.proofs.Common.{◌≡◌, ℕ, zero, suc, true, ◌≢◌, ◌⊎◌, List, [], ◌∷◌, ◌++◌, sym, refl, ap, ◌∙◌, inl, inr, ⊎_elim, append-nil}
use Rattle.std.proofs.Common.{arith}
use mathlib.Core.List.Memᴰ
use mathlib.Core.List.{Memᴰ}
use Rattle.model.specs.Slots.{View, height}
use Rattle.model.specs.Reached.{flat, children, reached_from, reached}
use Rattle.model.specs.SoundTest.{distinct, linked}
use Rattle.list_laws.proofs.Tools.{Each, Each-append, Each-map, Each-flat, flat-append}
use Rattle.list_laws.proofs.Members.{each-mem, mem-flat}
use Rattle.list_laws.proofs.Distinct.{distinct-cons, distinct-part}
use Rattle.tree_laws.proofs.Rows.{At, Row, Deep, linked-cons, row-lower, deep-lower, no-children}
use Rattle.tree_laws.proofs.Levels.{Orderly, top-row}

-- ---- siblings

-- 0, or one of ns
abbrev NoneOr : List ℕ → ℕ → Type 0
NoneOr ns n = (n ≡ 0) ⊎ Memᴰ n ns

module _ (v : View) where
  row-siblings : (ns : List ℕ) → linked v ns 0 ≡ true → Each (λ (n : ℕ). NoneOr ns (v.node n).sibling) ns
  row-siblings [] l = tt
  row-siblings (n ∷ []) l = (inl ((linked-cons v n [] 0).0 l).0, tt)
  row-siblings (n ∷ m ∷ ns) l =
      let u = (linked-cons v n (m ∷ ns) 0).0 l in (
        inr (Memᴰ.tail (Memᴰ.head u.0)),
        Each-map (λ (x : ℕ). NoneOr (m ∷ ns) (v.node x).sibling) (λ (x : ℕ). NoneOr (n ∷ m ∷ ns) (v.node x).sibling) (m ∷ ns)
            (λ x h. ⊎_elim (λ z. inl z) (λ t. inr (Memᴰ.tail t)) h) (row-siblings (m ∷ ns) u.1),
      )

  siblings-from : (d : ℕ) (ns : List ℕ) → Row v d ns → Deep v d ns
      → Each (λ (n : ℕ). NoneOr (reached_from v d ns) (v.node n).sibling) (reached_from v d ns)
  unfolding reached_from
  siblings-from zero ns r g = row-siblings ns r.chain
  siblings-from (suc d) ns r g =
      let low = reached_from v d (flat (children v) ns) in
      let P : ℕ → Type 0 = λ (n : ℕ). NoneOr (ns ++ low) (v.node n).sibling in
      Each-append P ns low
      (Each-map (λ (n : ℕ). NoneOr ns (v.node n).sibling) P ns (λ n h. ⊎_elim (λ z. inl z) (λ t. inr (Memᴰ.append_left low t)) h)
      (row-siblings ns r.chain))
      (Each-map (λ (n : ℕ). NoneOr low (v.node n).sibling) P low (λ n h. ⊎_elim (λ z. inl z) (λ t. inr (Memᴰ.append_right ns t)) h)
      (siblings-from d (flat (children v) ns) (row-lower v d ns r g) (deep-lower v d ns g)))

  -- a reached node's sibling is reached
  pub sibling-from : (d n : ℕ) (ns : List ℕ) → Row v d ns → Deep v d ns → Memᴰ n (reached_from v d ns) → (v.node n).sibling ≢ 0
      → Memᴰ (v.node n).sibling (reached_from v d ns)
  sibling-from d n ns r g m z =
      ⊎_elim (λ e. absurd (z e)) (λ t. t) (each-mem (λ (n : ℕ). NoneOr (reached_from v d ns) (v.node n).sibling) (siblings-from d ns r g) m)

  -- in an orderly tree the sibling of a reached node, if it has one, is reached
  pub sibling-reached : (n : ℕ) → Orderly v → Memᴰ n (reached v) → (v.node n).sibling ≢ 0 → Memᴰ (v.node n).sibling (reached v)
  sibling-reached n o = sibling-from (height v) n (v.root ∷ []) (top-row v o) o.good

  -- ---- children

  leaf-row-none : (ns : List ℕ) → Each (At v 0) ns → flat (children v) ns ≡ []
  unfolding flat
  leaf-row-none [] a = refl
  leaf-row-none (n ∷ ns) a = rw (no-children v n a.0.level) (leaf-row-none ns a.1)

  -- the nodes reached from a row are its own, then the children of every node reached
  pub rows-children : (d : ℕ) (ns : List ℕ) → Row v d ns → Deep v d ns → reached_from v d ns ≡ ns ++ flat (children v) (reached_from v d ns)
  unfolding reached_from
  rows-children zero ns r g = sym (ap (λ (l : List ℕ). ns ++ l) (leaf-row-none ns r.at) ∙ append-nil ns)
  rows-children (suc d) ns r g =
      let low = reached_from v d (flat (children v) ns) in
      ap (λ (l : List ℕ). ns ++ l)
      (rows-children d (flat (children v) ns) (row-lower v d ns r g) (deep-lower v d ns g) ∙ sym (flat-append (children v) ns low))

  -- the nodes reached are the root and the children of them all
  pub reached-children : Orderly v → reached v ≡ v.root ∷ flat (children v) (reached v)
  reached-children o = rows-children (height v) (v.root ∷ []) (top-row v o) o.good

  -- in an orderly tree each child of a reached node is reached
  pub child-reached : (p c : ℕ) → Orderly v → Memᴰ p (reached v) → Memᴰ c (children v p) → Memᴰ c (reached v)
  child-reached p c o m h = rw (reached-children o) (Memᴰ.tail ((mem-flat (children v) c (reached v)).1 (p, m, h)))

  -- in an orderly tree no node is twice a child of reached nodes
  pub children-once : Orderly v → distinct (flat (children v) (reached v)) ≡ true
  children-once o = ((distinct-cons v.root (flat (children v) (reached v))).0 (rw (reached-children o) at o.once)).1

  -- in an orderly tree the children of a reached node are different
  pub distinct-children : (p : ℕ) → Orderly v → Memᴰ p (reached v) → distinct (children v p) ≡ true
  distinct-children p o m = distinct-part (children v) (reached v) p (children-once o) m

  levels-from : (d : ℕ) (ns : List ℕ) → Row v d ns → Deep v d ns
      → Each (λ (n : ℕ). Each (λ (c : ℕ). (v.node n).level ≡ suc (v.node c).level) (children v n)) (reached_from v d ns)
  unfolding reached_from
  levels-from zero ns r g =
      Each-map (At v 0) (λ (n : ℕ). Each (λ (c : ℕ). (v.node n).level ≡ suc (v.node c).level) (children v n)) ns
      (λ n a. rw (no-children v n a.level) tt) r.at
  levels-from (suc d) ns r g =
      let low = reached_from v d (flat (children v) ns) in
      let P : ℕ → Type 0 = λ (n : ℕ). Each (λ (c : ℕ). (v.node n).level ≡ suc (v.node c).level) (children v n) in
      let r' = row-lower v d ns r g in
      Each-append P ns low (here ns r.at (Each-flat (At v d) (children v) ns r'.at))
      (levels-from d (flat (children v) ns) r' (deep-lower v d ns g))
    where
      here : (ns : List ℕ) → Each (At v (suc d)) ns → Each (λ (n : ℕ). Each (At v d) (children v n)) ns
          → Each (λ (n : ℕ). Each (λ (c : ℕ). (v.node n).level ≡ suc (v.node c).level) (children v n)) ns
      here [] a h = tt
      here (n ∷ ns) a h = (
        Each-map (At v d) (λ (c : ℕ). (v.node n).level ≡ suc (v.node c).level) (children v n)
            (λ c q. let x = a.0.level in let y = q.level in omega arith) h.0,
        here ns a.1 h.1,
      )

  -- children stand one level down
  pub child-level : (p c : ℕ) → Orderly v → Memᴰ p (reached v) → Memᴰ c (children v p) → (v.node p).level ≡ suc (v.node c).level
  child-level p c o m h = each-mem (λ (c : ℕ). (v.node p).level ≡ suc (v.node c).level)
      (each-mem (λ (n : ℕ). Each (λ (c : ℕ). (v.node n).level ≡ suc (v.node c).level) (children v n))
      (levels-from (height v) (v.root ∷ []) (top-row v o) o.good) m) h
