-- Places among the pairs of a tree: where one goes on, the pairs from there, and two places side by side.
use Rattle.std.proofs.Common.{◌≡◌, ℕ, suc, ◌-◌, ◌<◌, ◌≤◌, Bool, true, false, not, ◌&&◌, eqb, List, [], ◌∷◌, ◌++◌, sym, refl, ap, ◌∙◌, arith}
use Rattle.std.proofs.Common.{eqb-true, le-leb, leb-false, leb-true}
use mathlib.Core.Bool.{and_assoc, false≢true}
use borrow.Author.Tests.{eqb-false, lt-leb}
use Rattle.model.specs.Table.{Words, at, nodes}
use Rattle.model.specs.Slots.{Slot, View, node_view, view_from, view}
use Rattle.model.specs.Search.{below}
use Rattle.model.specs.Reached.{flat, kept}
use Rattle.model.specs.Ledger.{leave}
use Rattle.model.specs.Judge.{same_slots}
use Rattle.node.specs.Word.{word_of}
use Rattle.node.proofs.WordLaws.{word-sibling}
use Rattle.walk_laws.specs.Walk.{ways}
use Rattle.walk_laws.specs.Chain.{along, first_leaf}
use Rattle.walk_laws.proofs.ChainLaw.{along-none, along-more}
use Rattle.slots.specs.declared.ways.Ways.{Ways}
use Rattle.slots.specs.Gathered.{slots_in}
use Rattle.slots.proofs.Kept.{ways-end, ways-next}
use Rattle.leaves.proofs.HitLaws.{kept-ways}
use Rattle.leaves.proofs.FoundLaws.{whole-is}
use Rattle.compare.specs.Along.{pairs_along, all_pairs}
use Rattle.compare.specs.declared.Cursor.{Cursor}
use Rattle.compare.specs.Cursors.{pairs_at, at_end, pair_at, goes_on, past, same_pair, same_but}
use Rattle.compare.proofs.Maps.{leave-skip, leave-stay}

-- ---- where it goes on

module _ (c : Cursor) where
  -- whether its leaf has a pair more
  pub no-pair : at_end c ≡ true → c.ways.count ≤ c.at
  unfolding at_end
  no-pair e = leb-true c.ways.count c.at e

  pub a-pair : at_end c ≡ false → c.at < c.ways.count
  unfolding at_end
  a-pair e = leb-false c.ways.count c.at e

  at-pair-of : c.at < c.ways.count → at_end c ≡ false
  unfolding at_end
  at-pair-of h = lt-leb c.ways.count c.at h

  at-end-of : c.ways.count ≤ c.at → at_end c ≡ true
  unfolding at_end
  at-end-of h = le-leb c.ways.count c.at h

  module _ (k : ℕ) where
    by-key : at_end c ≡ false → eqb (pair_at c).key k ≡ goes_on k c
    unfolding goes_on
    by-key e = rw e

    -- with no pair more in its leaf, another leaf follows
    pub leaf-follows : goes_on k c ≡ true → at_end c ≡ true → (c.next ≡ 0 → ⊥) × (c.left ≡ 0 → ⊥)
    unfolding goes_on
    leaf-follows g e = go (eqb c.next 0) (eqb c.left 0) refl refl (rw e at g)
      where
        go : (a b : Bool) → eqb c.next 0 ≡ a → eqb c.left 0 ≡ b → not (eqb c.next 0) && not (eqb c.left 0) ≡ true
            → (c.next ≡ 0 → ⊥) × (c.left ≡ 0 → ⊥)
        go false false p q h = (eqb-false c.next 0 p, eqb-false c.left 0 q)
        go true b p q h = absurd (false≢true (rw p at h))
        go false true p q h = absurd (false≢true (rw (p, q) at h))

-- ---- the pairs there

module _ (v : View) (c : Cursor) where
  pairs-past : c.at < c.ways.count → pairs_at v c ≡ pair_at c ∷ pairs_at v (past c)
  unfolding pairs_at
  pairs-past h = ap (λ (ss : List Slot). ss ++ pairs_along v c.left c.next) (ways-next c.ways c.at h)

  leaf-done : c.ways.count ≤ c.at → pairs_at v c ≡ pairs_along v c.left c.next
  unfolding pairs_at
  leaf-done h = ap (λ (ss : List Slot). ss ++ pairs_along v c.left c.next) (ways-end c.ways c.at h)

  pairs-end : (k : ℕ) → goes_on k c ≡ false → c.ways.count ≤ c.at → pairs_at v c ≡ []
  unfolding goes_on flat along
  pairs-end k g h = leaf-done h ∙ go (eqb c.next 0) (eqb c.left 0) refl refl
    where
      go : (a b : Bool) → eqb c.next 0 ≡ a → eqb c.left 0 ≡ b → pairs_along v c.left c.next ≡ []
      go true b p q = ap (λ (n : ℕ). pairs_along v c.left n) (eqb-true c.next 0 p) ∙ ap (flat (kept v)) (along-none v c.left)
      go false true p q = ap (λ (m : ℕ). pairs_along v m c.next) (eqb-true c.left 0 q)
      go false false p q = absurd (false≢true (sym (rw (at-end-of c h, p, q) at g)))

-- a leaf loaded
pub pairs-load : (t : Words) (c : Cursor) (w : Ways) (n : ℕ) → c.ways.count ≤ c.at → (c.next ≡ 0 → ⊥) → (c.left ≡ 0 → ⊥) → slots_in w
    ≡ ways (view t) c.next → n ≡ word_of t c.next 1
    → pairs_at (view t) (record { ways = w; at = 1; next = n; left = c.left - 1 }) ≡ pairs_at (view t) c
unfolding flat pairs_at
pairs-load t c w n h z y e q =
    let v = view t in
    let more : c.left ≡ suc (c.left - 1) = omega arith in
    let sibling : (node_view t c.next).sibling ≡ n = sym (q ∙ word-sibling t c.next) in
    let first : along v c.left c.next ≡ c.next ∷ along v (c.left - 1) n =
    ap (λ (k : ℕ). along v k c.next) more ∙ along-more v (c.left - 1) c.next z ∙ ap (λ (k : ℕ). c.next ∷ along v (c.left - 1) k) sibling in
    ap (λ (ss : List Slot). ss ++ pairs_along v (c.left - 1) n) (kept-ways t (at t 1) c.next w e)
    ∙ sym (ap (flat (kept v)) first) ∙ sym (leaf-done v c h)

-- before the first pair
any-pairs : (t : Words) (r q left leaf : ℕ) → pairs_along (view_from t r) left leaf ≡ pairs_along (view_from t q) left leaf
unfolding along kept below
any-pairs t r q left leaf = refl

pub pairs-start : (t : Words) (r : ℕ) (ks ps : Words) (few : 0 ≤ 13) (n left : ℕ) → n ≡ first_leaf (view_from t r) → left ≡ nodes t
    → pairs_at (view t) (record { ways = record { count = 0; keys = ks; pointers = ps; count_bound = few }; at = 0; next = n; left = left })
    ≡ all_pairs (view_from t r)
pairs-start t r ks ps few n left e q =
    let v = view_from t r in
    leaf-done (view t) (record { ways = record { count = 0; keys = ks; pointers = ps; count_bound = few }; at = 0; next = n; left = left })
    (omega arith)
    ∙ any-pairs t (at t 1) r left n ∙ ap (flat (kept v)) (whole-is v n left e q)

-- ---- the pairs but for a key

module _ (v : View) (k : ℕ) (c : Cursor) where
  -- a pair of the key is passed over
  pub skip-key : goes_on k c ≡ true → c.at < c.ways.count → leave k (pairs_at v (past c)) ≡ leave k (pairs_at v c)
  skip-key g h =
      let e : eqb (pair_at c).key k ≡ true = by-key c k (at-pair-of c h) ∙ g in
      sym (ap (leave k) (pairs-past v c h) ∙ leave-skip k (pair_at c) (pairs_at v (past c)) (eqb-true (pair_at c).key k e))

  -- at a pair of another key, and at the end
  at-pair : goes_on k c ≡ false → c.at < c.ways.count → leave k (pairs_at v c) ≡ pair_at c ∷ leave k (pairs_at v (past c))
  at-pair g h =
      let e : eqb (pair_at c).key k ≡ false = by-key c k (at-pair-of c h) ∙ g in
      ap (leave k) (pairs-past v c h) ∙ leave-stay k (pair_at c) (pairs_at v (past c)) (eqb-false (pair_at c).key k e)

  at-none : goes_on k c ≡ false → c.ways.count ≤ c.at → leave k (pairs_at v c) ≡ []
  unfolding leave
  at-none g h = ap (leave k) (pairs-end v c k g h)

-- ---- two places side by side

-- from the first pairs of two trees on
pub compared-all : (v w : View) (k : ℕ) (a a₀ b b₀ : Cursor) {ps qs : List Slot} → leave k (pairs_at v a) ≡ leave k (pairs_at v a₀)
    → pairs_at v a₀ ≡ ps → leave k (pairs_at w b) ≡ leave k (pairs_at w b₀)
    → pairs_at w b₀ ≡ qs → same_but k (pairs_at v a) (pairs_at w b) ≡ same_but k ps qs
unfolding same_but
compared-all v w k a a₀ b b₀ x p y q = rw (x, y) (rw (p, q) refl)

-- what is left to compare comes to r
pub record Comparing (v w : View) (k : ℕ) (r : Bool) (a b : Cursor) : Type 0 where
  pub first : goes_on k a ≡ false
  pub second : goes_on k b ≡ false
  pub comes-to : same_but k (pairs_at v a) (pairs_at w b) ≡ r

module _ {v w : View} {k : ℕ} {r : Bool} {a b : Cursor} (q : Comparing v w k r a b) where
  -- the first has no pair more
  pub compared-end : a.ways.count ≤ a.at → at_end b ≡ r
  unfolding same_but same_slots
  compared-end h = go (at_end b) refl
    where
      left : same_slots [] (leave k (pairs_at w b)) ≡ r
      left = ap (λ (ss : List Slot). same_slots ss (leave k (pairs_at w b))) (sym (at-none v k a q.first h)) ∙ q.comes-to

      go : (e : Bool) → at_end b ≡ e → at_end b ≡ r
      go true e = e ∙ sym (ap (same_slots []) (at-none w k b q.second (no-pair b e))) ∙ left
      go false e = e ∙ sym (ap (same_slots []) (at-pair w k b q.second (a-pair b e))) ∙ left

  module _ (h : a.at < a.ways.count) where
    abbrev rest : Bool
    rest = same_but k (pairs_at v (past a)) (pairs_at w (past b))

    compared-step : same_pair a b && rest ≡ r
    unfolding same_but same_slots same_pair
    compared-step = go (at_end b) refl
      where
        left : same_slots (pair_at a ∷ leave k (pairs_at v (past a))) (leave k (pairs_at w b)) ≡ r
        left = ap (λ (ss : List Slot). same_slots ss (leave k (pairs_at w b))) (sym (at-pair v k a q.first h)) ∙ q.comes-to

        go : (e : Bool) → at_end b ≡ e → same_pair a b && rest ≡ r
        go true e = rw e (sym (ap (same_slots (pair_at a ∷ leave k (pairs_at v (past a)))) (at-none w k b q.second (no-pair b e))) ∙ left)
        go false e =
            rw e
            (and_assoc (eqb (pair_at a).key (pair_at b).key) (eqb (pair_at a).pointer (pair_at b).pointer) rest
            ∙ sym (ap (same_slots (pair_at a ∷ leave k (pairs_at v (past a)))) (at-pair w k b q.second (a-pair b e))) ∙ left)

    module _ (s : Bool) (e : s ≡ same_pair a b) where
      pub compared-differ : s ≡ false → false ≡ r
      compared-differ z = ap (λ (x : Bool). x && rest) (sym z ∙ e) ∙ compared-step

      -- the second has a pair too
      pub compared-both : s ≡ true → b.at < b.ways.count
      unfolding same_pair
      compared-both z = go (at_end b) refl (sym e ∙ z)
        where
          go : (x : Bool) → at_end b ≡ x → same_pair a b ≡ true → b.at < b.ways.count
          go true p h = absurd (false≢true (rw p at h))
          go false p h = a-pair b p

      pub compared-next : s ≡ true → (a' b' : Cursor) → leave k (pairs_at v a') ≡ leave k (pairs_at v (past a)) → leave k (pairs_at w b')
          ≡ leave k (pairs_at w (past b))
          → same_but k (pairs_at v a') (pairs_at w b') ≡ r
      unfolding same_but
      compared-next z a' b' x y = rw (x, y) (ap (λ (c : Bool). c && rest) (sym z ∙ e) ∙ compared-step)
