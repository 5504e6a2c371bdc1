-- Levels joined from left to right: each node's children lie between its fence and its sibling's, and what no node has for a child.
use Rattle.std.proofs.Common.{◌≡◌, ℕ, suc, ◌<◌, ◌≤◌, true, ◌≢◌, ◌⊎◌, sym, refl, ap, ◌∙◌, subst, inl, inr, arith}
use mathlib.Core.List.Memᴰ
use mathlib.Core.List.{Memᴰ}
use Rattle.model.specs.Slots.{Slot, View, height}
use Rattle.model.specs.Search.{within}
use Rattle.model.specs.Reached.{pointers, kept, named, first_child, next_child}
use Rattle.model.specs.Sound.{Reached, at-root, by-left, by-sibling, by-slot, Child, left-child, slot-child, Rise}
use Rattle.view_laws.proofs.NodeViews.{level_of, fence_of}
use Rattle.list_laws.proofs.Tools.{same-or-not, compared}
use Rattle.list_laws.proofs.Members.{mem-each}
use Rattle.list_laws.proofs.Filters.{mem-filter}
use Rattle.tree_laws.proofs.Rows.{first-child}
use Rattle.tree_laws.proofs.Cover.{below-true}
use Rattle.tree_laws.proofs.Levels.{Ascending}
use Rattle.tree_laws.proofs.Rising.{rising-from-rise}
use Rattle.sound_laws.proofs.Neighbours.{Follows, follows-in}
use Rattle.sound_laws.proofs.Fences.{slots-ascend, Place, inner, final, place}

-- the sentences on levels, children and siblings that no leftover excuses
pub record Joined (v : View) : Type 0 where
  pub child-level : {p c : ℕ} → Reached v p → Child v p c → suc (v.node c).level ≡ (v.node p).level
  pub child-number : {p c : ℕ} → Reached v p → Child v p c → (1 ≤ c) × (c ≤ v.nodes)
  pub left-fence : {p : ℕ} → Reached v p → 0 < (v.node p).level → (v.node (v.node p).left).fence ≡ (v.node p).fence
  pub slot-fence : {p : ℕ} {s : Slot} → Reached v p → 0 < (v.node p).level → Memᴰ s (v.node p).shown → within v p s.key ≡ true
      → (v.node s.pointer).fence ≡ s.key
  pub keys-rise : {n : ℕ} → Reached v n → Rise (kept v n)
  pub keys-above : {n : ℕ} {s : Slot} → Reached v n → 0 < (v.node n).level → Memᴰ s (kept v n) → (v.node n).fence < s.key
  pub apart : {m n : ℕ} → Reached v m → Reached v n → (v.node m).level ≡ (v.node n).level → (v.node m).fence ≡ (v.node n).fence → m ≡ n
  pub sibling-level : {n : ℕ} → Reached v n → (v.node n).sibling ≢ 0 → (v.node (v.node n).sibling).level ≡ (v.node n).level
  pub sibling-right : {n : ℕ} → Reached v n → (v.node n).sibling ≢ 0 → (v.node n).fence < (v.node (v.node n).sibling).fence
  pub sibling-next : {m n : ℕ} → Reached v m → Reached v n → (v.node m).level ≡ (v.node n).level → (v.node n).fence < (v.node m).fence
      → ((v.node n).sibling ≢ 0) × ((v.node (v.node n).sibling).fence ≤ (v.node m).fence)

-- ---- children and the nodes that are named

module _ (v : View) where
  pub kept-in : {p : ℕ} {s : Slot} → Memᴰ s (v.node p).shown → within v p s.key ≡ true → Memᴰ s (kept v p)
  unfolding kept
  kept-in {p} {s} m w = (mem-filter (λ (s : Slot). within v p s.key) s (v.node p).shown).1 (m, w)

  pub in-kept : (p : ℕ) {s : Slot} → Memᴰ s (kept v p) → Memᴰ s (v.node p).shown × (within v p s.key ≡ true)
  unfolding kept
  in-kept p {s} m = (mem-filter (λ (s : Slot). within v p s.key) s (v.node p).shown).0 m

  pub child-named : {p c : ℕ} → Child v p c → Memᴰ c (named v p)
  child-named (left-child l) = Memᴰ.head refl
  child-named (slot-child l m w) = Memᴰ.tail (Memᴰ.map (λ (s : Slot). s.pointer) (kept-in m w))

  pub kept-child : (p : ℕ) {s : Slot} → 0 < (v.node p).level → Memᴰ s (kept v p) → Child v p s.pointer
  kept-child p l m = let u = in-kept p m in slot-child l u.0 u.1

  pub named-child : (p : ℕ) {c : ℕ} → 0 < (v.node p).level → Memᴰ c (named v p) → Child v p c
  named-child p {c} l m = go (Memᴰ.cases_cons m)
    where
      go : (c ≡ (v.node p).left) ⊎ Memᴰ c (pointers (kept v p)) → Child v p c
      go (inl e) = subst (Child v p) (sym e) (left-child l)
      go (inr k) = let u = Memᴰ.of_map (λ (s : Slot). s.pointer) (kept v p) k in subst (Child v p) u.2 (kept-child p l u.1)

  pub child-inner : {p c : ℕ} → Child v p c → 0 < (v.node p).level
  child-inner (left-child l) = l
  child-inner (slot-child l m w) = l

  pub child-reached : {p c : ℕ} → Reached v p → Child v p c → Reached v c
  child-reached r (left-child l) = by-left r l
  child-reached r (slot-child l m w) = by-slot r l m w

  -- b lies between a and c, or after a where c is 0, and is no node's child
  pub record Stray (a c b : ℕ) : Type 0 where
    pub there : b ≢ 0
    pub above : (v.node a).fence < (v.node b).fence
    pub below : c ≢ 0 → (v.node b).fence < (v.node c).fence
    pub alone : {q : ℕ} → Reached v q → Child v q b → ⊥

-- ---- where children lie

module _ (v : View) (j : Joined v) where
  pub child-from : {p c : ℕ} → Reached v p → Child v p c → (v.node p).fence ≤ (v.node c).fence
  child-from r (left-child l) = let e = j.left-fence r l in omega arith
  child-from r (slot-child l m w) = let e = j.slot-fence r l m w in let a = j.keys-above r l (kept-in v m w) in omega arith

  pub child-below : {p c : ℕ} → Reached v p → Child v p c → (v.node p).sibling ≢ 0 → (v.node c).fence < (v.node (v.node p).sibling).fence
  child-below r (left-child l) z = let e = j.left-fence r l in let s = j.sibling-right r z in omega arith
  child-below r (slot-child l m w) z = let e = j.slot-fence r l m w in let a = below-true v _ _ z w in omega arith

  -- no node has two parents
  pub parent-same : {p q c : ℕ} → Reached v p → Child v p c → Reached v q → Child v q c → q ≡ p
  parent-same {p} {q} {c} r k s h = go (compared (v.node q).fence (v.node p).fence)
    where
      same-level : (v.node p).level ≡ (v.node q).level
      same-level = let a = j.child-level r k in let b = j.child-level s h in omega arith

      clash : {m n : ℕ} → Reached v m → Child v m c → Reached v n → Child v n c → (v.node m).level ≡ (v.node n).level
          → (v.node n).fence < (v.node m).fence → ⊥
      clash rm km rn kn l f = let u = j.sibling-next rm rn l f in let b = child-below rn kn u.0 in let a =
          child-from rm km in omega (arith, u.1)

      go : ((v.node q).fence < (v.node p).fence) ⊎ (((v.node q).fence ≡ (v.node p).fence) ⊎ ((v.node p).fence < (v.node q).fence)) → q ≡ p
      go (inl f) = absurd (clash r k s h same-level f)
      go (inr (inl e)) = j.apart s r (sym same-level) e
      go (inr (inr f)) = absurd (clash s h r k (sym same-level) f)

  -- no node is sibling of two
  pub sibling-same : {m n : ℕ} → Reached v m → Reached v n → (v.node n).sibling ≢ 0 → (v.node m).sibling ≡ (v.node n).sibling → m ≡ n
  sibling-same {m} {n} r s z e = go (compared (v.node m).fence (v.node n).fence)
    where
      other : (v.node m).sibling ≢ 0
      other q = z (sym e ∙ q)

      same-level : (v.node m).level ≡ (v.node n).level
      same-level = sym (j.sibling-level r other) ∙ ap (level_of v) e ∙ j.sibling-level s z

      same-fence : (v.node (v.node m).sibling).fence ≡ (v.node (v.node n).sibling).fence
      same-fence = ap (fence_of v) e

      go : ((v.node m).fence < (v.node n).fence) ⊎ (((v.node m).fence ≡ (v.node n).fence) ⊎ ((v.node n).fence < (v.node m).fence)) → m ≡ n
      go (inl f) = let u = j.sibling-next s r (sym same-level) f in let k = j.sibling-right s z in let h =
          same-fence in absurd (omega (arith, u.1))
      go (inr (inl f)) = j.apart r s same-level f
      go (inr (inr f)) = let u = j.sibling-next r s same-level f in let k = j.sibling-right r other in let h =
          same-fence in absurd (omega (arith, u.1))

  pub named-ascend : {p : ℕ} → Reached v p → 0 < (v.node p).level → Ascending v (named v p)
  named-ascend {p} r l = (
    mem-each (λ (m : ℕ). (v.node (v.node p).left).fence < (v.node m).fence) (pointers (kept v p))
        (λ c m. higher c (Memᴰ.of_map (λ (s : Slot). s.pointer) (kept v p) m)),
    slots-ascend v 0 (kept v p)
        (rising-from-rise 0 (kept v p) (j.keys-rise r) (mem-each (λ (s : Slot). 0 ≤ s.key) (kept v p) (λ s m. omega arith)))
        (mem-each (λ (s : Slot). (v.node s.pointer).fence ≡ s.key) (kept v p) (λ s m. let u = in-kept v p m in j.slot-fence r l u.0 u.1)),
  )
    where
      higher : (c : ℕ) → (s : Slot) × Memᴰ s (kept v p) × (s.pointer ≡ c) → (v.node (v.node p).left).fence < (v.node c).fence
      higher c u =
          let w = in-kept v p u.1 in
          let e = j.slot-fence r l w.0 w.1 in
          let a = j.keys-above r l u.1 in
          let f = j.left-fence r l in
          let g = ap (fence_of v) u.2 in
          omega arith

  pub reached-level : {n : ℕ} → Reached v n → (v.node n).level ≤ height v
  reached-level at-root = omega arith
  reached-level (by-left r l) = let h = reached-level r in let e = j.child-level r (left-child l) in omega arith
  reached-level (by-sibling r z) = let h = reached-level r in let e = j.sibling-level r z in omega arith
  reached-level (by-slot r l m w) = let h = reached-level r in let e = j.child-level r (slot-child l m w) in omega arith

  -- ---- the gap between two named children, or after the last one

  module _ {p a c : ℕ} (r : Reached v p) (l : 0 < (v.node p).level) (f : Follows (next_child v p) a c (named v p)) where
    gap-place : Place v (named v p) (next_child v p) a c
    gap-place = place v (named v p) (named-ascend r l) f

    pub gap-child : Child v p a
    gap-child = named-child v p l (follows-in f)

    pub gap-reached : Reached v a
    gap-reached = child-reached v r gap-child

    child-there : {q b : ℕ} → Reached v q → Child v q b → b ≢ 0
    child-there s k e = let h = j.child-number s k in omega arith

    -- the last child is followed by the left child of p's sibling
    next-there : (v.node p).sibling ≢ 0 → c ≡ next_child v p → Child v (v.node p).sibling c
    next-there z e = subst (Child v (v.node p).sibling) (sym (e ∙ first-child v (v.node p).sibling z))
        (left-child (let h = j.sibling-level r z in omega arith))

    next-none : c ≡ next_child v p → c ≢ 0 → (v.node p).sibling ≢ 0
    next-none e z s = z (e ∙ ap (first_child v) s ∙ (unfold first_child in refl))

    -- the next one, where there is one, is on the same level, to the right
    pub gap-next : c ≢ 0 → Reached v c × ((v.node c).level ≡ (v.node a).level) × ((v.node a).fence < (v.node c).fence)
    gap-next z = go gap-place
      where
        go : Place v (named v p) (next_child v p) a c → Reached v c × ((v.node c).level ≡ (v.node a).level)
            × ((v.node a).fence < (v.node c).fence)
        go (inner k g h) =
            let d = named-child v p l k in
            (child-reached v r d, (let x = j.child-level r d in let y = j.child-level r gap-child in omega arith), g)
        go (final e h) =
            let s = next-none e z in
            let rs = by-sibling r s in
            let d = next-there s e in (
              child-reached v rs d,
              (let x = j.child-level rs d in let y = j.child-level r gap-child in let t = j.sibling-level r s in omega arith),
              (let x = child-below r gap-child s in let y = child-from rs d in omega arith),
            )

    -- and it is a child
    pub gap-parent : c ≢ 0 → (q : ℕ) × Reached v q × Child v q c
    gap-parent z = go gap-place
      where
        go : Place v (named v p) (next_child v p) a c → (q : ℕ) × Reached v q × Child v q c
        go (inner k g h) = (p, r, named-child v p l k)
        go (final e h) = let s = next-none e z in ((v.node p).sibling, by-sibling r s, next-there s e)

    -- what lies in the gap is no node's child
    gap-alone : (b : ℕ) → (v.node b).level ≡ (v.node a).level → (v.node a).fence < (v.node b).fence
        → (c ≢ 0 → (v.node b).fence < (v.node c).fence) → {q : ℕ} → Reached v q → Child v q b → ⊥
    gap-alone b lb above below {q} s k = go (compared (v.node q).fence (v.node p).fence) gap-place
      where
        same-level : (v.node q).level ≡ (v.node p).level
        same-level = let x = j.child-level s k in let y = j.child-level r gap-child in omega arith

        left-of : (v.node q).fence < (v.node p).fence → ⊥
        left-of o = let u = j.sibling-next r s (sym same-level) o in let x = child-below s k u.0 in let y =
            child-from r gap-child in omega (arith, u.1)

        inside : Memᴰ b (named v p) → Place v (named v p) (next_child v p) a c → ⊥
        inside m (inner i g h) = either (h b m)
          where
            either : ((v.node b).fence ≤ (v.node a).fence) ⊎ ((v.node c).fence ≤ (v.node b).fence) → ⊥
            either (inl x) = omega arith
            either (inr x) = let y = below (child-there r (named-child v p l i)) in omega arith
        inside m (final e h) = let x = h b m in omega arith

        right-of : (v.node p).fence < (v.node q).fence → Place v (named v p) (next_child v p) a c → ⊥
        right-of o (inner i g h) =
            let u = j.sibling-next s r same-level o in
            let d = named-child v p l i in
            let x = child-below r d u.0 in
            let y = child-from s k in
            let z = below (child-there r d) in
            omega (arith, u.1)
        right-of o (final e h) =
            let u = j.sibling-next s r same-level o in
            let rs = by-sibling r u.0 in
            let d = next-there u.0 e in
            let x = child-from s k in
            let z = below (child-there rs d) in
            let w = ap (fence_of v) (e ∙ first-child v (v.node p).sibling u.0) in
            let t = j.left-fence rs (let h = j.sibling-level r u.0 in omega arith) in
            omega (arith, u.1)

        go : ((v.node q).fence < (v.node p).fence) ⊎ (((v.node q).fence ≡ (v.node p).fence) ⊎ ((v.node p).fence < (v.node q).fence))
            → Place v (named v p) (next_child v p) a c → ⊥
        go (inl o) w = left-of o
        go (inr (inl e)) w = inside (child-named v (subst (λ (x : ℕ). Child v x b) (j.apart s r same-level e) k)) w
        go (inr (inr o)) w = right-of o w

    -- y stands in the gap, or is a: its sibling is c, or stands in the gap too
    pub gap-sibling : {y : ℕ} → Reached v y → (v.node y).level ≡ (v.node a).level → (v.node a).fence ≤ (v.node y).fence
        → (c ≢ 0 → (v.node y).fence < (v.node c).fence) → ((v.node y).sibling ≡ c → ⊥) → Stray v a c (v.node y).sibling
    gap-sibling {y} s ly from under other = stray (same-or-not c 0)
      where
        closer : (v.node (v.node y).sibling).fence ≤ (v.node c).fence → (v.node y).sibling ≢ 0 → Reached v c → (v.node c).level
            ≡ (v.node a).level → (v.node (v.node y).sibling).fence < (v.node c).fence
        closer h z rc lc = go (compared (v.node (v.node y).sibling).fence (v.node c).fence)
          where
            go : ((v.node (v.node y).sibling).fence < (v.node c).fence)
                ⊎ (((v.node (v.node y).sibling).fence ≡ (v.node c).fence) ⊎ ((v.node c).fence < (v.node (v.node y).sibling).fence))
                → (v.node (v.node y).sibling).fence < (v.node c).fence
            go (inl x) = x
            go (inr (inl e)) = absurd (other (j.apart (by-sibling s z) rc (let t = j.sibling-level s z in omega arith) e))
            go (inr (inr x)) = absurd (omega arith)

        build : (v.node y).sibling ≢ 0 → (c ≢ 0 → (v.node (v.node y).sibling).fence < (v.node c).fence) → Stray v a c (v.node y).sibling
        build z b =
            let t = j.sibling-level s z in
            let u = j.sibling-right s z in
            let o : (v.node a).fence < (v.node (v.node y).sibling).fence = omega arith in
            record { there = z; above = o; below = b; alone = λ rq k. gap-alone (v.node y).sibling (omega arith) o b rq k }

        stray : (c ≡ 0) ⊎ (c ≢ 0) → Stray v a c (v.node y).sibling
        stray (inl e) = build (λ q. other (q ∙ sym e)) (λ z. absurd (z e))
        stray (inr z) =
            let g = gap-next z in
            let u = j.sibling-next g.0 s (let q = g.1 in omega arith) (under z) in
            build u.0 (λ q. closer u.1 u.0 g.0 g.1)
