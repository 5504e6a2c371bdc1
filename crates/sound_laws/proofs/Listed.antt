-- Where every listed node is good, the list of reached nodes holds just the nodes of document 01's sentence, and the map just its slots.
use Rattle.std.proofs.Common.{◌≡◌, ℕ, zero, suc, true, ◌⊎◌, List, [], ◌∷◌, sym, refl, ◌∙◌, subst, inl, inr, arith}
use mathlib.Core.List.Memᴰ
use mathlib.Core.List.{Memᴰ}
use Rattle.model.specs.Table.{in_range}
use Rattle.model.specs.Slots.{Slot, View, height}
use Rattle.model.specs.Reached.{flat, kept, named, next_child, children, reached_from, reached, leaves, mapping}
use Rattle.model.specs.SoundTest.{distinct}
use Rattle.model.specs.Sound.{Reached, at-root, by-left, by-sibling, by-slot, Child, left-child, slot-child}
use Rattle.list_laws.proofs.Tools.{Each, Each-append, all-each}
use Rattle.list_laws.proofs.Members.{each-mem, mem-each, mem-flat}
use Rattle.tree_laws.proofs.Rows.{Good, At, Row, inner, no-children, children-inner, not-zero, leaf-row, fill-mem}
use Rattle.tree_laws.proofs.Levels.{RootFacts, Orderly, Level, level-root, mem-reached, mem-leaves, ascending, row-distinct, once-follows}
use Rattle.tree_laws.proofs.Parents.{rows-children, sibling-from}
use Rattle.sound_laws.proofs.Neighbours.{Lost, in-fill, follows-in}
use Rattle.sound_laws.proofs.Joined.{child-named, named-child, child-inner, child-reached}

-- what goes from a node to its children holds of all that is listed from a row down
pub rows-all : (v : View) (P : ℕ → Type 0) → ((n c : ℕ) → P n → Memᴰ c (children v n) → P c) → (d : ℕ) (ns : List ℕ) → Each P ns
    → Each P (reached_from v d ns)
unfolding reached_from
rows-all v P step zero ns h = h
rows-all v P step (suc d) ns h =
    let low = flat (children v) ns in
    Each-append P ns (reached_from v d low) h
    (rows-all v P step d low (mem-each P low (λ c k. let u = (mem-flat (children v) c ns).0 k in step u.0 c (each-mem P h u.1) u.2)))

-- the root is as it should be, and every listed node is good
pub record AllGood (v : View) : Type 0 where
  pub top : RootFacts v
  pub good : Each (Good v) (reached v)

module _ (v : View) (w : AllGood v) where
  abbrev from-root : Level v (height v) (v.root ∷ [])
  from-root = level-root v w.top w.good

  leaf-level : Row v 0 (leaves v)
  leaf-level = leaf-row v (height v) (v.root ∷ []) from-root.row from-root.deep

  listed-children : reached v ≡ v.root ∷ flat (children v) (reached v)
  listed-children = rows-children v (height v) (v.root ∷ []) from-root.row from-root.deep

  root-listed : Memᴰ v.root (reached v)
  root-listed = rw listed-children (Memᴰ.head refl)

  listed-below : {n c : ℕ} → Memᴰ n (reached v) → Memᴰ c (children v n) → Memᴰ c (reached v)
  listed-below {n} {c} m k = rw listed-children (Memᴰ.tail ((mem-flat (children v) c (reached v)).1 (n, m, k)))

  pub child-children : {p c : ℕ} → Child v p c → Memᴰ c (children v p)
  child-children {p} {c} k = go (v.node p).level refl
    where
      go : (d : ℕ) → (v.node p).level ≡ d → Memᴰ c (children v p)
      go zero e = absurd (let h = child-inner v k in omega arith)
      go (suc d) e = subst (Memᴰ c) (sym (children-inner v d p e)) (fill-mem v (next_child v p) (child-named v k))

  -- a node of the sentence is listed
  pub reached-listed : {n : ℕ} → Reached v n → Memᴰ n (reached v)
  reached-listed at-root = root-listed
  reached-listed (by-left r l) = listed-below (reached-listed r) (child-children (left-child l))
  reached-listed (by-sibling r z) = sibling-from v (height v) _ (v.root ∷ []) from-root.row from-root.deep (reached-listed r) z
  reached-listed (by-slot r l m k) = listed-below (reached-listed r) (child-children (slot-child l m k))

  -- a listed node is one of the sentence
  abbrev Both : ℕ → Type 0
  Both n = Memᴰ n (reached v) × Reached v n

  both-below : (n c : ℕ) → Both n → Memᴰ c (children v n) → Both c
  both-below n c b m = (listed-below b.0 m, go (v.node n).level refl)
    where
      in-row : (d : ℕ) → (v.node n).level ≡ suc d → Memᴰ c (named v n)
          ⊎ ((a : ℕ) × (e : ℕ) × Lost v (named v n) (next_child v n) a e × (c ≡ (v.node a).sibling)) → Reached v c
      in-row d e (inl k) = child-reached v b.1 (named-child v n (omega arith) k)
      in-row d e (inr u) =
          let ra = child-reached v b.1 (named-child v n (omega arith) (follows-in u.2.follows)) in
          let z = not-zero v c
          (each-mem (λ (x : ℕ). in_range v.nodes x ≡ true)
          ((all-each (in_range v.nodes) (children v n)).0 (inner v d n (each-mem (Good v) w.good b.0) e).range) m) in
          subst (Reached v) (sym u.3) (by-sibling ra (λ q. z (u.3 ∙ q)))

      go : (d : ℕ) → (v.node n).level ≡ d → Reached v c
      go zero e = absurd (Memᴰ.not-nil (rw (no-children v n e) at m))
      go (suc d) e = in-row d e (in-fill v (next_child v n) (named v n) (subst (Memᴰ c) (children-inner v d n e) m))

  pub listed-reached : {n : ℕ} → Memᴰ n (reached v) → Reached v n
  listed-reached m = (each-mem Both (rows-all v Both both-below (height v) (v.root ∷ []) ((root-listed, at-root), tt)) m).1

  pub listed-distinct : distinct (reached v) ≡ true
  listed-distinct = once-follows v w.top w.good

  -- ---- the leaves and the map

  pub leaf-listed : {n : ℕ} → Memᴰ n (leaves v) → Reached v n × ((v.node n).level ≡ 0)
  leaf-listed {n} m = (
    listed-reached ((mem-reached v n (height v) (v.root ∷ [])).1 (height v, omega arith, m)),
    (each-mem (At v 0) leaf-level.at m).level,
  )

  pub leaves-distinct : distinct (leaves v) ≡ true
  leaves-distinct = row-distinct v (leaves v) (ascending v 0 (leaves v) leaf-level)

  pub mapped : {s : Slot} → Memᴰ s (mapping v) → (n : ℕ) × Reached v n × ((v.node n).level ≡ 0) × Memᴰ s (kept v n)
  unfolding mapping
  mapped {s} m = let u = (mem-flat (kept v) s (leaves v)).0 m in let k = leaf-listed u.1 in (u.0, k.0, k.1, u.2)

pub orderly-good : (v : View) → Orderly v → AllGood v
orderly-good v o = record { top = o.top; good = o.good }

module _ (v : View) (o : Orderly v) where
  pub listed-leaf : {n : ℕ} → Reached v n → (v.node n).level ≡ 0 → Memᴰ n (leaves v)
  listed-leaf {n} r e = (mem-leaves v n o).1 (reached-listed v (orderly-good v o) r, e)

  pub in-map-of : {s : Slot} {n : ℕ} → Reached v n → (v.node n).level ≡ 0 → Memᴰ s (kept v n) → Memᴰ s (mapping v)
  unfolding mapping
  in-map-of {s} {n} r e m = (mem-flat (kept v) s (leaves v)).1 (n, listed-leaf r e, m)
