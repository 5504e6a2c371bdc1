-- The kept slots of a good node: they rise from its fence up to its sibling's; what is ignored comes after them.
use Rattle.std.proofs.Common.{◌≡◌, ℕ, zero, suc, ◌<◌, ◌≤◌, Bool, true, false, not, ◌≢◌, ◌↔◌, List, [], ◌∷◌, ◌++◌, length, refl, ap, ◌∙◌}
use Rattle.std.proofs.Common.{arith}
use borrow.Author.Tests.{not-true}
use Rattle.model.specs.Slots.{Slot, View}
use Rattle.model.specs.Search.{within}
use Rattle.model.specs.Reached.{filter, kept}
use Rattle.model.specs.SoundTest.{rising, come_first, keys_ok, leaf_ok, inner_ok}
use Rattle.model.specs.Shifts.{place_of}
use Rattle.list_laws.proofs.Tools.{decode, all-each, Each, Each-map, Each-filter}
use Rattle.list_laws.proofs.Members.{mem-each}
use Rattle.list_laws.proofs.Filters.{mem-filter, filter-all, filter-none, filter-whole}
use Rattle.tree_laws.proofs.Rows.{Good, leaf-ok, inner-ok}
use Rattle.tree_laws.proofs.Cover.{below-true, below-false}
use Rattle.tree_laws.proofs.Rising.{rising-weaken, rising-from, place-between}

-- what is shown of a node from its sibling's fence up
abbrev pub ignored : View → ℕ → List Slot
ignored v n = filter (λ (s : Slot). not (within v n s.key)) (v.node n).shown

-- the key of each kept slot is below the fence of the node's sibling
pub kept-within : (v : View) (n : ℕ) → Each (λ (s : Slot). within v n s.key ≡ true) (kept v n)
unfolding kept
kept-within v n = Each-map _ (λ (s : Slot). within v n s.key ≡ true) (filter (λ (s : Slot). within v n s.key) (v.node n).shown) (λ s h. h.1)
    (Each-filter (λ (s : Slot). Unit {0}) (λ (s : Slot). within v n s.key) (v.node n).shown (units (v.node n).shown))
  where
    units : (ss : List Slot) → Each (λ (s : Slot). Unit {0}) ss
    units [] = tt
    units (s ∷ ss) = (tt, units ss)

pub kept-below : (v : View) (n : ℕ) → (v.node n).sibling ≢ 0 → Each (λ (s : Slot). s.key < (v.node (v.node n).sibling).fence) (kept v n)
kept-below v n z = Each-map (λ (s : Slot). within v n s.key ≡ true) (λ (s : Slot). s.key < (v.node (v.node n).sibling).fence) (kept v n)
    (λ s h. below-true v s.key (v.node n).sibling z h) (kept-within v n)

-- ---- a good node

-- by cases: a leaf, or a node above the leaves
pub by-level : (v : View) (P : ℕ → Type 0) (n : ℕ) → ((v.node n).level ≡ 0 → P n) → ((d : ℕ) → (v.node n).level ≡ suc d → P n) → P n
by-level v P n a b = go (v.node n).level refl
  where
    go : (l : ℕ) → (v.node n).level ≡ l → P n
    go zero e = a e
    go (suc d) e = b d e

-- its keys rise from its fence, in an inner node from above it
pub inner-rises : (v : View) (d n : ℕ) → Good v n → (v.node n).level ≡ suc d → rising (suc (v.node n).fence) (kept v n) ≡ true
unfolding inner_ok keys_ok
inner-rises v d n g e = (simp decode at (inner-ok v d n g e)).0.0

-- the kept keys of a good node rise strictly from its fence on
pub kept-rises : (v : View) (n : ℕ) → Good v n → rising (v.node n).fence (kept v n) ≡ true
unfolding leaf_ok keys_ok
kept-rises v n g = by-level v (λ (n : ℕ). rising (v.node n).fence (kept v n) ≡ true) n (λ e. (simp decode at (leaf-ok v n g e)).1.0)
    (λ d e. rising-weaken (v.node n).fence (suc (v.node n).fence) (kept v n) (omega arith) (inner-rises v d n g e))

-- the kept keys of a good node are at least its fence
pub kept-from : (v : View) (n : ℕ) → Good v n → Each (λ (s : Slot). (v.node n).fence ≤ s.key) (kept v n)
kept-from v n g = rising-from (v.node n).fence (kept v n) (kept-rises v n g)

-- the ignored slots come last
pub kept-first : (v : View) (n : ℕ) → Good v n → come_first (λ (s : Slot). within v n s.key) (v.node n).shown ≡ true
unfolding leaf_ok inner_ok keys_ok
kept-first v n g = by-level v (λ (n : ℕ). come_first (λ (s : Slot). within v n s.key) (v.node n).shown ≡ true) n
    (λ e. (simp decode at (leaf-ok v n g e)).1.1) (λ d e. (simp decode at (inner-ok v d n g e)).0.1)

pub first-split : (q : Slot → Bool) (ss : List Slot) → come_first q ss ≡ true → ss ≡ filter q ss ++ filter (λ (s : Slot). not (q s)) ss
unfolding come_first filter
first-split q [] h = refl
first-split q (s ∷ ss) h = go (q s) refl (first-split q ss)
  where
    go : (b : Bool) → q s ≡ b → (come_first q ss ≡ true → ss ≡ filter q ss ++ filter (λ (s : Slot). not (q s)) ss) → s ∷ ss
        ≡ filter q (s ∷ ss) ++ filter (λ (s : Slot). not (q s)) (s ∷ ss)
    go true c ih = rw (c, filter) (ap (λ (l : List Slot). s ∷ l) (ih (rw (c, come_first) at h)))
    go false c ih =
        let w = (all-each (λ (x : Slot). not (q x)) ss).0 (rw (c, come_first) at h) in
        let e : filter q ss ≡ [] =
        filter-none q ss (Each-map (λ (x : Slot). not (q x) ≡ true) (λ (x : Slot). q x ≡ false) ss (λ x y. not-true (q x) y) w) in
        let f : filter (λ (x : Slot). not (q x)) ss ≡ ss = filter-all (λ (x : Slot). not (q x)) ss w in
        rw (c, filter, e, f)

-- the slots that pass a test, where they come first
pub first-part : (q : Slot → Bool) (a b : List Slot) → Each (λ (s : Slot). q s ≡ true) a → Each (λ (s : Slot). q s ≡ false) b
    → (filter q (a ++ b) ≡ a) × (come_first q (a ++ b) ≡ true)
unfolding filter come_first
first-part q [] [] x y = (refl, refl)
first-part q [] (s ∷ b) x y = (
  rw (y.0, filter) (filter-none q b y.1),
  rw (y.0, come_first)
      ((all-each (λ (t : Slot). not (q t)) b).1
      (Each-map (λ (t : Slot). q t ≡ false) (λ (t : Slot). not (q t) ≡ true) b (λ t e. ap not e) y.1)),
)
first-part q (s ∷ a) b x y = let u =
    first-part q a b x.1 y in (rw (x.0, filter) (ap (λ (l : List Slot). s ∷ l) u.0), rw (x.0, come_first) u.1)

-- if every slot passes, those that pass come first
pub each-first : (q : Slot → Bool) (ss : List Slot) → Each (λ (s : Slot). q s ≡ true) ss → come_first q ss ≡ true
unfolding come_first
each-first q [] h = refl
each-first q (s ∷ ss) h = rw (h.0, come_first) (each-first q ss h.1)

-- a good node shows its kept slots, then the ignored ones
pub shown-split : (v : View) (n : ℕ) → Good v n → (v.node n).shown ≡ kept v n ++ ignored v n
unfolding kept
shown-split v n g = first-split (λ (s : Slot). within v n s.key) (v.node n).shown (kept-first v n g)

ignored-from : (v : View) (n : ℕ) → Each (λ (s : Slot). (v.node (v.node n).sibling).fence ≤ s.key) (ignored v n)
ignored-from v n = mem-each _ (ignored v n)
    (λ s m. (below-false v s.key (v.node n).sibling
    (not-true _ ((mem-filter (λ (s : Slot). not (within v n s.key)) s (v.node n).shown).0 m).1)).1)

-- they begin at the place of the sibling's fence
pub cut-place : (v : View) (n : ℕ) → Good v n → (v.node n).sibling ≢ 0
    → place_of (v.node (v.node n).sibling).fence (v.node n).shown ≡ length (kept v n)
cut-place v n g z = ap (place_of (v.node (v.node n).sibling).fence) (shown-split v n g)
    ∙ place-between (v.node (v.node n).sibling).fence (kept v n) (ignored v n) (kept-below v n z) (ignored-from v n)

-- nothing is ignored exactly if as many slots are kept as are shown
pub kept-whole : (v : View) (n : ℕ) → (length (kept v n) ≡ length (v.node n).shown) ↔ (kept v n ≡ (v.node n).shown)
unfolding kept
kept-whole v n = (
  λ e. filter-all (λ (s : Slot). within v n s.key) (v.node n).shown
      (filter-whole (λ (s : Slot). within v n s.key) (v.node n).shown e),
  λ e. ap length e,
)
