-- What a reached node of an orderly table meets: nodes that are reached, or 0. Its followed slots are its kept ones.
use Rattle.std.proofs.Common.{◌≡◌, ℕ, suc, pred, Bool, true, false, not, ◌||◌, eqb, ltb, ◌⊎◌, List, [], ◌∷◌, ◌++◌, map, sym, refl, ap, ◌∙◌}
use Rattle.std.proofs.Common.{subst, inl, inr, ⊎_elim, arith, ne_eqb}
use mathlib.Core.List.{Memᴰ}
use Rattle.model.specs.Table.{Words, in_range}
use Rattle.model.specs.Slots.{Slot, View, node_view, view_from, shown, used}
use Rattle.model.specs.Search.{below, within}
use Rattle.model.specs.Reached.{filter, pointers, kept, named, next_child, reached}
use Rattle.list_laws.proofs.Tools.{Each, Each-append, same-or-not, refuted}
use Rattle.list_laws.proofs.Members.{each-mem, mem-each}
use Rattle.list_laws.proofs.Filters.{filter-yes, filter-no}
use Rattle.tree_laws.proofs.Rows.{Good, not-zero, sib-facts, children-inner, fill-mem, range-iff}
use Rattle.tree_laws.proofs.Kept.{by-level}
use Rattle.tree_laws.proofs.Levels.{Orderly}
use Rattle.tree_laws.proofs.Parents.{sibling-reached, child-reached}
use Rattle.model.specs.Salvage.{Placed, Meeting, meet, shown_at, under_fence, in_reach, followed, meetings}

-- ---- the followed slots

shown-at : (p i : ℕ) (ss : List Slot) → map (λ (x : Placed). x.slot) (shown_at p i ss) ≡ shown p ss
unfolding shown_at shown
shown-at p i [] = refl
shown-at p i (s ∷ ss) = go (eqb s.pointer p) (shown-at s.pointer (suc i) ss)
  where
    go : (b : Bool) → map (λ (x : Placed). x.slot) (shown_at s.pointer (suc i) ss) ≡ shown s.pointer ss
        → map (λ (x : Placed). x.slot)
        (elim b as (λ b. List Placed)
        [ true ↦ shown_at s.pointer (suc i) ss | false ↦ record { place = i; slot = s } ∷ shown_at s.pointer (suc i) ss ])
        ≡ (elim b as (λ b. List Slot) [ true ↦ shown s.pointer ss | false ↦ s ∷ shown s.pointer ss ])
    go true h = h
    go false h = ap (λ (l : List Slot). s ∷ l) h

map-filter : {A B : Type 0} (f : A → B) (p : A → Bool) (q : B → Bool) → ((x : A) → p x ≡ q (f x)) → (xs : List A)
    → map f (filter p xs) ≡ filter q (map f xs)
map-filter f p q e [] = unfold filter in refl
map-filter {B = B} f p q e (x ∷ xs) = go (q (f x)) refl (map-filter f p q e xs)
  where
    go : (b : Bool) → q (f x) ≡ b → map f (filter p xs) ≡ filter q (map f xs) → map f (filter p (x ∷ xs)) ≡ filter q (f x ∷ map f xs)
    go true c h = ap (λ l. map f l) (filter-yes p x xs (e x ∙ c)) ∙ ap (λ (l : List B). f x ∷ l) h ∙ sym (filter-yes q (f x) (map f xs) c)
    go false c h = ap (λ l. map f l) (filter-no p x xs (e x ∙ c)) ∙ h ∙ sym (filter-no q (f x) (map f xs) c)

-- the sibling is 0 or a node's number
abbrev pub SiblingIn : View → ℕ → Type 0
SiblingIn v n = ((v.node n).sibling ≡ 0) ⊎ (in_range v.nodes (v.node n).sibling ≡ true)

pub good-sibling : (v : View) (n : ℕ) → Good v n → SiblingIn v n
good-sibling v n g = ⊎_elim (λ z. inl z) (λ z. inr (sib-facts v n g z).range) (same-or-not (v.node n).sibling 0)

zero-out : (n : ℕ) → in_range n 0 ≡ false
zero-out n = refuted (in_range n 0) (λ h. let u = (range-iff n 0).0 h in omega (arith, u.0))

follows-zero : (v : View) (k : ℕ) → (not (in_range v.nodes 0) || ltb k (v.node 0).fence) ≡ below v 0 k
unfolding below
follows-zero v k = rw (zero-out v.nodes)

follows-in : (v : View) (s k : ℕ) → in_range v.nodes s ≡ true → (not (in_range v.nodes s) || ltb k (v.node s).fence) ≡ below v s k
unfolding below
follows-in v s k r = rw (r, ne_eqb s 0 (not-zero v s r))

follows : (v : View) (n k : ℕ) → SiblingIn v n
    → (not (in_range v.nodes (v.node n).sibling) || ltb k (v.node (v.node n).sibling).fence) ≡ within v n k
follows v n k h = ⊎_elim
    (λ z. subst (λ (s : ℕ). (not (in_range v.nodes s) || ltb k (v.node s).fence) ≡ below v s k) (sym z) (follows-zero v k))
    (λ r. follows-in v (v.node n).sibling k r) h

pub followed-kept : (t : Words) (r n : ℕ) → SiblingIn (view_from t r) n → map (λ (x : Placed). x.slot) (followed t n)
    ≡ kept (view_from t r) n
unfolding followed under_fence kept
followed-kept t r n h =
    let v = view_from t r in
    map-filter (λ (x : Placed). x.slot) (in_reach t n) (λ (s : Slot). within v n s.key) (λ x. follows v n x.slot.key h)
    (shown_at (v.node n).left 0 (used t n))
    ∙ ap (λ (l : List Slot). filter (λ (s : Slot). within v n s.key) l) (shown-at (v.node n).left 0 (used t n))

-- ---- the meetings

-- what a node meets if its level is l; b: it is 0
abbrev ways : Words → ℕ → ℕ → Bool → List Meeting
ways t n l b = elim b as (λ b. List Meeting) [
  | true ↦ meet (node_view t n).sibling l ∷ []
  | false ↦ meet (node_view t n).left (pred l)
      ∷ (map (λ (x : Placed). meet x.slot.pointer (pred l)) (followed t n) ++ (meet (node_view t n).sibling l ∷ []))
]

pub meetings-leaf : (t : Words) (n : ℕ) → (node_view t n).level ≡ 0 → meetings t n ≡ meet (node_view t n).sibling 0 ∷ []
unfolding meetings
meetings-leaf t n e = ap (λ (l : ℕ). ways t n l (eqb l 0)) e

-- those after the left child
abbrev pub further_met : Words → ℕ → ℕ → List Meeting
further_met t d n = map (λ (x : Placed). meet x.slot.pointer d) (followed t n) ++ (meet (node_view t n).sibling (suc d) ∷ [])

pub meetings-inner : (t : Words) (d n : ℕ) → (node_view t n).level ≡ suc d → meetings t n ≡ meet (node_view t n).left d ∷ further_met t d n
unfolding meetings
meetings-inner t d n e = ap (λ (l : ℕ). ways t n l (eqb l 0)) e ∙ ap (ways t n (suc d)) (ne_eqb (suc d) 0 (λ z. omega arith))

-- 0, or reached
abbrev pub Known : View → Meeting → Type 0
Known v x = (x.node ≡ 0) ⊎ Memᴰ x.node (reached v)

module _ (t : Words) (r : ℕ) (o : Orderly (view_from t r)) where
  abbrev v : View
  v = view_from t r

  sibling-known : (n l : ℕ) → Memᴰ n (reached v) → Known v (meet (v.node n).sibling l)
  sibling-known n l m = ⊎_elim (λ z. inl z) (λ z. inr (sibling-reached v n o m z)) (same-or-not (v.node n).sibling 0)

  named-known : (d n l c : ℕ) → (v.node n).level ≡ suc d → Memᴰ n (reached v) → Memᴰ c (named v n) → Known v (meet c l)
  named-known d n l c e m i = inr (child-reached v n c o m (rw (children-inner v d n e) (fill-mem v (next_child v n) i)))

  placed-known : (l : ℕ) (xs : List Placed) → Each (λ (s : Slot). Known v (meet s.pointer l)) (map (λ (x : Placed). x.slot) xs)
      → Each (Known v) (map (λ (x : Placed). meet x.slot.pointer l) xs)
  placed-known l [] h = tt
  placed-known l (x ∷ xs) h = (h.0, placed-known l xs h.1)

  slots-known : (l : ℕ) (ss : List Slot) → Each (λ (c : ℕ). Known v (meet c l)) (pointers ss)
      → Each (λ (s : Slot). Known v (meet s.pointer l)) ss
  slots-known l [] h = tt
  slots-known l (s ∷ ss) h = (h.0, slots-known l ss h.1)

  pub further-known : (d n : ℕ) → (v.node n).level ≡ suc d → Memᴰ n (reached v) → Each (Known v) (further_met t d n)
  further-known d n e m =
      let q = followed-kept t r n (good-sibling v n (each-mem (Good v) o.good m)) in
      Each-append (Known v) (map (λ (x : Placed). meet x.slot.pointer d) (followed t n)) (meet (v.node n).sibling (suc d) ∷ [])
      (placed-known d (followed t n)
      (rw q (slots-known d (kept v n)
      (mem-each (λ (c : ℕ). Known v (meet c d)) (pointers (kept v n)) (λ c i. named-known d n d c e m (Memᴰ.tail i))))))
      (sibling-known n (suc d) m, tt)

  pub inner-known : (d n : ℕ) → (v.node n).level ≡ suc d → Memᴰ n (reached v) → Each (Known v) (meetings t n)
  inner-known d n e m = rw (meetings-inner t d n e) (named-known d n d (v.node n).left e m (Memᴰ.head refl), further-known d n e m)

  -- of a leaf too
  pub reached-known : (n : ℕ) → Memᴰ n (reached v) → Each (Known v) (meetings t n)
  reached-known n m = by-level v (λ (n : ℕ). Memᴰ n (reached v) → Each (Known v) (meetings t n)) n
      (λ e m. rw (meetings-leaf t n e) (sibling-known n 0 m, tt)) (λ d e m. inner-known d n e m) m

  pub left-reached : (d n : ℕ) → (v.node n).level ≡ suc d → Memᴰ n (reached v) → Memᴰ (v.node n).left (reached v)
  left-reached d n e m =
      child-reached v n (v.node n).left o m (rw (children-inner v d n e) (fill-mem v {ns = named v n} (next_child v n) (Memᴰ.head refl)))
