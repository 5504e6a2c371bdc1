-- The tests of a quick call on a settled table with a summary that is true of it: the way is fit, and the leaf and the summary tell what
-- the
-- whole table would.
use Rattle.std.proofs.Common.{◌≡◌, ℕ, zero, suc, ◌+◌, ◌<◌, Bool, true, false, cond, ◌&&◌, ◌||◌, eqb, ltb, ◌≢◌, List, [], ◌∷◌, length, take}
use Rattle.std.proofs.Common.{sym, refl, ap, ◌∙◌, ⊎_elim, arith, ltb-true, lt-ltb, eq-eqb, ne_eqb}
use mathlib.Core.Bool.{false≢true}
use mathlib.Core.List.{Memᴰ}
use mathlib.Core.Option.{Option, none, some}
use borrow.Author.Tests.{eqb-false}
use Rattle.model.specs.Table.{Words, nodes, root_word, in_range, no_collection}
use Rattle.model.specs.Slots.{Slot, View, node_view, height, view_of}
use Rattle.model.specs.Search.{path, first_with}
use Rattle.model.specs.Reached.{pointers, kept, named, children, reached, map_of, reached_all}
use Rattle.model.specs.SoundTest.{elem, settled}
use Rattle.model.specs.Shifts.{last_pointer, place_of}
use Rattle.model.specs.Writes.{standing_in, standing, run, root_in_run, child_before, frees_leaf}
use Rattle.model.specs.Refusals.{has_key, too_few}
use Rattle.model.specs.Summary.{fit_node, is_there, way_ok, key_there, frees, neighbour_ok, too_few_in}
use Rattle.list_laws.proofs.Tools.{Each, Each-map, and-iff, leb-iff, all-each, first-nil, or-right, not-iff}
use Rattle.list_laws.proofs.Members.{each-mem}
use Rattle.list_laws.proofs.Distinct.{UpTo}
use Rattle.tree_laws.proofs.Rows.{Good, Named, inner, range-iff}
use Rattle.tree_laws.proofs.Levels.{Orderly, reached-numbers, mem-leaves}
use Rattle.tree_laws.proofs.SearchLaw.{Stands, locate-leaf, path-stands, path-step, path-reached, range-first}
use Rattle.tree_laws.proofs.Parents.{child-reached}
use Rattle.word_laws.proofs.ShiftViews.{shown-few}
use Rattle.change_laws.proofs.Parts.{good-parts}
use Rattle.change_laws.proofs.Pairs.{has-key-iff, has-key-found}
use Rattle.two_laws.proofs.TwoLaw.{Low}
use Rattle.two_laws.proofs.Arrange.{arr-low}
use Rattle.two_laws.proofs.PartsTwo.{beside, tree}
use Rattle.summary_laws.proofs.Marks.{reached-own, MarksTrue, unmarked-all}

-- the place of a key that is there
pub has-place : (k : ℕ) (ss : List Slot) → has_key k ss ≡ true → place_of k ss < length ss
unfolding has_key place_of
has-place k [] e = absurd (false≢true e)
has-place k (s ∷ ss) e = go (ltb s.key k) refl (has-place k ss)
  where
    go : (b : Bool) → ltb s.key k ≡ b → (has_key k ss ≡ true → place_of k ss < length ss) → place_of k (s ∷ ss) < suc (length ss)
    go true q ih = rw (q, place_of)
        (omega (arith, ih (ap (λ (b : Bool). b || has_key k ss) (sym (ne_eqb s.key k (λ z. omega (arith, ltb-true s.key k q, z)))) ∙ e)))
    go false q ih = rw (q, place_of) (omega arith)

-- a table whose header is right
module _ (n : ℕ) (t : Words) (h : no_collection n t ≡ false) (s : settled t ≡ true) where
  abbrev v : View
  v = view_of n t

  o : Orderly (view_of n t)
  o = (tree n t h s).left.orderly

  low : Low (root_word n) (beside n t h s).0
  low = arr-low (root_word n) (beside n t h s).0 t (beside n t h s).1

  pub in-range : (m : ℕ) → Memᴰ m (reached (view_of n t)) → in_range (nodes t) m ≡ true
  in-range m i = (range-iff (nodes t) m).1 (each-mem (UpTo (nodes t)) (reached-numbers (view_of n t) o) i)

  in-all : (m : ℕ) → Memᴰ m (reached (view_of n t)) → elem m (reached_all t) ≡ true
  in-all m i = reached-own (root_word n) (beside n t h s).0 t m (beside n t h s).1 i

  -- ---- the way

  module _ (ms : Words) (c : MarksTrue ms t) where
    fit : (m : ℕ) → Memᴰ m (reached (view_of n t)) → fit_node ms (view_of n t) m ≡ true
    unfolding fit_node
    fit m i = (and-iff _ _).1 (
      c.same m (in-range m i) ∙ in-all m i,
      (and-iff _ _).1 (
        eq-eqb _ _ (each-mem (λ (m : ℕ). (node_view t m).hidden ≡ 0) (tree n t h s).left.left.0 i),
        (leb-iff _ _).1 (shown-few t m (good-parts (view_of n t) m (each-mem (Good (view_of n t)) o.good i)).0),
      ),
    )

    pub way-ok : (k : ℕ) → way_ok ms (view_of n t) k ≡ true
    unfolding way_ok
    way-ok k = (and-iff _ _).1 (
      (leb-iff _ _).1 o.top.level,
      (and-iff _ _).1 (
        ap is_there (locate-leaf (view_of n t) k o),
        (all-each (fit_node ms (view_of n t)) (path (view_of n t) k)).1
            (Each-map (λ (m : ℕ). Memᴰ m (reached (view_of n t))) (λ (m : ℕ). fit_node ms (view_of n t) m ≡ true) (path (view_of n t) k) fit
            (path-reached (view_of n t) k o)),
      ),
    )

    -- ---- 10

    pub too-few : (k : ℕ) → too_few_in n ms t k ≡ too_few n t k
    unfolding too_few_in too_few
    too-few k = ap (λ (ns : List ℕ). ltb (length ns) (run n t k + cond (root_in_run n t k) 1 0)) (unmarked-all ms t c)

  -- ---- 7 and 9

  pub stands : (k : ℕ) → Stands (view_of n t) k 0 (standing n t 0 k)
  unfolding standing_in
  stands k = path-stands (view_of n t) k 0 o (omega arith)

  pub leaf-first : (k : ℕ) → first_with k (map_of n t) ≡ first_with k (node_view t (standing n t 0 k)).shown
  leaf-first k =
      let u = stands k in
      range-first (view_of n t) k (standing n t 0 k) o ((mem-leaves (view_of n t) (standing n t 0 k) o).1 (u.reached, u.covers.at.level))
      u.covers.fence u.covers.inside

  pub leaf-key : (k : ℕ) → key_there n t k ≡ has_key k (map_of n t)
  leaf-key k = same-first (node_view t (standing n t 0 k)).shown (map_of n t) (sym (leaf-first k))
    where
      none-some : (x : Slot) → ◌≡◌ {A = Option Slot} none (some x) → ⊥
      none-some x e = let z : ◌≡◌ {A = ℕ} 0 1 = cc in omega arith

      same-first : (a b : List Slot) → first_with k a ≡ first_with k b → has_key k a ≡ has_key k b
      same-first a b e = go (has_key k a) (has_key k b) refl refl
        where
          go : (p q : Bool) → has_key k a ≡ p → has_key k b ≡ q → has_key k a ≡ has_key k b
          go true true x y = x ∙ sym y
          go false false x y = x ∙ sym y
          go true false x y = let u =
              has-key-found k a x in absurd (none-some _ (sym (first-nil k b ((has-key-iff k b).0 y)) ∙ sym e ∙ u.1))
          go false true x y = let u = has-key-found k b y in absurd (none-some _ (sym (first-nil k a ((has-key-iff k a).0 x)) ∙ e ∙ u.1))

  -- ---- the left neighbour of a leaf that is freed

  frees-high : (p x : ℕ) → frees_leaf n t p x ≡ true → 0 < height (view_of n t)
  unfolding frees_leaf
  frees-high p x e = let u = simp and-iff at e in ltb-true 0 (height (view_of n t)) u.1.0

  last-in : (p : ℕ) (ss : List Slot) (i : ℕ) → Memᴰ (last_pointer p (take i ss)) (p ∷ pointers ss)
  unfolding last_pointer
  last-in p ss zero = mathlib.Core.List.Memᴰ.head refl
  last-in p [] (suc i) = mathlib.Core.List.Memᴰ.head refl
  last-in p (s ∷ ss) (suc i) = mathlib.Core.List.Memᴰ.tail (last-in s.pointer ss i)

  child-in : (k x : ℕ) → 0 < height (view_of n t) → Memᴰ (child_before (view_of n t) (standing n t 1 k) x) (reached (view_of n t))
  unfolding child_before standing_in
  child-in k x high =
      let p = standing n t 1 k in
      let u = path-stands (view_of n t) k 1 o high in
      let level : ((view_of n t).node p).level ≢ 0 = λ z. omega (arith, z, u.covers.at.level) in
      let keeps : kept (view_of n t) p ≡ (node_view t p).shown =
      each-mem (λ (m : ℕ). kept (view_of n t) m ≡ (node_view t m).shown) (tree n t h s).left.left.1 u.reached in
      let names : children (view_of n t) p ≡ named (view_of n t) p =
      each-mem (λ (m : ℕ). ((view_of n t).node m).level ≢ 0 → children (view_of n t) m ≡ named (view_of n t) m)
      (tree n t h s).left.left.2 u.reached level in
      let all : children (view_of n t) p ≡ (node_view t p).left ∷ pointers (node_view t p).shown =
      names ∙ ap (λ (ss : List Slot). (node_view t p).left ∷ pointers ss) keeps in
      child-reached (view_of n t) p _ o u.reached
      (rw all (last-in (node_view t p).left (node_view t p).shown (place_of (node_view t x).fence (node_view t p).shown)))

  -- the parent has the slot of a child that is not its leftmost one
  pointer-key : (P : Slot → Type 0) (x : ℕ) (ss : List Slot) → Each P ss → Memᴰ x (pointers ss) → (s : Slot) × P s × (s.pointer ≡ x)
      × (has_key s.key ss ≡ true)
  unfolding has_key
  pointer-key P x [] h m = absurd (mathlib.Core.List.Memᴰ.not-nil m)
  pointer-key P x (s ∷ ss) h m =
      ⊎_elim (λ e. (s, h.0, sym e, ap (λ (b : Bool). b || has_key s.key ss) (eq-eqb s.key s.key refl)))
      (λ i. let u = pointer-key P x ss h.1 i in (u.0, u.1, u.2, or-right (eqb s.key u.0.key) (has_key u.0.key ss) u.3))
      (mathlib.Core.List.Memᴰ.cases_cons m)

  frees-left : (p x : ℕ) → frees_leaf n t p x ≡ true → (node_view t p).left ≢ x
  unfolding frees_leaf
  frees-left p x e = let u = simp and-iff at e in eqb-false (node_view t p).left x ((not-iff _).0 u.1.1)

  slot-at : (k : ℕ) → 0 < height (view_of n t) → (node_view t (standing n t 1 k)).left ≢ standing n t 0 k
      → place_of (node_view t (standing n t 0 k)).fence (node_view t (standing n t 1 k)).shown < length
      (node_view t (standing n t 1 k)).shown
  unfolding standing_in
  slot-at k high z =
      let p = standing n t 1 k in
      let x = standing n t 0 k in
      let u = path-stands (view_of n t) k 1 o high in
      let level : ((view_of n t).node p).level ≢ 0 = λ q. omega (arith, q, u.covers.at.level) in
      let keeps : kept (view_of n t) p ≡ (node_view t p).shown =
      each-mem (λ (m : ℕ). kept (view_of n t) m ≡ (node_view t m).shown) (tree n t h s).left.left.1 u.reached in
      let names : children (view_of n t) p ≡ named (view_of n t) p =
      each-mem (λ (m : ℕ). ((view_of n t).node m).level ≢ 0 → children (view_of n t) m ≡ named (view_of n t) m)
      (tree n t h s).left.left.2 u.reached level in
      let child : Memᴰ x ((node_view t p).left ∷ pointers (kept (view_of n t) p)) =
      rw names at (path-step (view_of n t) k 0 o high).child in
      let slots : Each (Named (view_of n t) 0) (kept (view_of n t) p) = (inner (view_of n t) 0 p u.covers.good u.covers.at.level).names in
      let w = pointer-key (Named (view_of n t) 0) x (kept (view_of n t) p) slots
      (⊎_elim (λ e. absurd (z (sym e))) (λ i. i) (mathlib.Core.List.Memᴰ.cases_cons child)) in
      let same : w.0.key ≡ (node_view t x).fence = sym w.1.fence ∙ ap (λ (m : ℕ). (node_view t m).fence) w.2 in
      has-place (node_view t x).fence (node_view t p).shown
      (ap (λ (j : ℕ). has_key j (node_view t p).shown) (sym same) ∙ ap (has_key w.0.key) (sym keeps) ∙ w.3)

  pub neighbour : (k : ℕ) → neighbour_ok n t k ≡ true
  unfolding neighbour_ok
  neighbour k = go (key_there n t k && frees n t k) refl
    where
      p : ℕ
      p = standing n t 1 k

      x : ℕ
      x = standing n t 0 k

      go : (b : Bool) → (key_there n t k && frees n t k) ≡ b
          → cond (key_there n t k && frees n t k)
          (ltb (place_of (node_view t x).fence (node_view t p).shown) (length (node_view t p).shown) && in_range (nodes t)
          (child_before (view_of n t) p x)) true ≡ true
      go false e = rw e
      go true e =
          let f = ((and-iff (key_there n t k) (frees n t k)).0 e).1 in
          let high = frees-high p x f in
          rw e ((and-iff _ _).1 (lt-ltb _ _ (slot-at k high (frees-left p x f)), in-range _ (child-in k x high)))
