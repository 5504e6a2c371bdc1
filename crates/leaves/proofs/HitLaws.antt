-- The leaves passed one by one: what is left to look through, from the present leaf and slot on.
use Rattle.std.proofs.Common.{◌≡◌, ℕ, zero, suc, ◌+◌, ◌-◌, ◌<◌, ◌≤◌, true, false, leb, List, [], ◌∷◌, map, get_or, sym, refl, ap, ◌∙◌}
use Rattle.std.proofs.Common.{add-one, arith, eq-eqb, ne_eqb, le-leb}
use mathlib.Core.List.{tail}
use borrow.Author.Tests.{lt-leb}
use Rattle.model.specs.Table.{Words, root}
use Rattle.model.specs.Slots.{Slot, recording_of, recording, View, node_view, view_from, view, height}
use Rattle.model.specs.Search.{below}
use Rattle.model.specs.Reached.{pointers, kept, named}
use Rattle.view_laws.proofs.AnyRoot.{any-kept}
use Rattle.node.specs.Word.{word_of}
use Rattle.node.proofs.WordLaws.{word-left, word-sibling, word-level}
use Rattle.walk_laws.specs.Walk.{ways}
use Rattle.walk_laws.specs.Chain.{last_or, leftmost, or_sibling, last_child, rightmost, first_leaf, last_leaf}
use Rattle.std.specs.Prelude.{Option, Some, None}
use Rattle.leaves.specs.declared.Hit.{Hit}
use Rattle.slots.specs.declared.ways.Ways.{Ways}
use Rattle.slots.specs.Gathered.{span, slots_in, ways_from}
use Rattle.leaves.specs.Hits.{numbers_from, recordings_from, hit_among, first_hit}

-- ---- the recording numbers of an array of pointers

numbers-none : (ps : List ℕ) (i : ℕ) → numbers_from ps i 0 ≡ []
unfolding numbers_from
numbers-none ps i = refl

pub numbers-end : (ps : List ℕ) (i m : ℕ) → m ≤ i → numbers_from ps i (m - i) ≡ []
numbers-end ps i m h = let z : m - i ≡ 0 = omega arith in ap (numbers_from ps i) z ∙ numbers-none ps i

pub numbers-next : (ps : List ℕ) (i m : ℕ) → i < m → numbers_from ps i (m - i) ≡ recording_of (get_or ps i 0)
    ∷ numbers_from ps (i + 1) (m - (i + 1))
unfolding numbers_from
numbers-next ps i m h =
    let z : m - i ≡ suc (m - (i + 1)) = omega arith in
    ap (numbers_from ps i) z ∙ ap (λ (j : ℕ). recording_of (get_or ps i 0) ∷ numbers_from ps j (m - (i + 1))) (sym (add-one i))

span-numbers : (ks ps : List ℕ) (i m : ℕ) → map recording (span ks ps i m) ≡ numbers_from ps i m
unfolding span numbers_from
span-numbers ks ps i zero = refl
span-numbers ks ps i (suc m) = ap (λ (l : List ℕ). recording_of (get_or ps i 0) ∷ l) (span-numbers ks ps (suc i) m)

pub ways-numbers : (w : Ways) (i : ℕ) → recordings_from w i ≡ numbers_from w.pointers i (w.count - i)
unfolding ways_from
ways-numbers w i = span-numbers w.keys w.pointers i (w.count - i)

-- the ways of a leaf but the first are its slots of the map, in any tree
module _ (t : Words) (r n : ℕ) (w : Ways) (is : slots_in w ≡ ways (view t) n) where
  -- a node's ways without the first, its left, are its kept slots
  pub kept-ways : ways_from w 1 ≡ kept (view_from t r) n
  unfolding ways_from span
  kept-ways = go w.count is ∙ any-kept t (root t) r n
    where
      go : (c : ℕ) → span w.keys w.pointers 0 c ≡ ways (view t) n → span w.keys w.pointers 1 (c - 1) ≡ kept (view t) n
      go zero q = ap tail q
      go (suc c) q = let z : suc c - 1 ≡ c = omega arith in ap (span w.keys w.pointers 1) z ∙ ap tail q

  pub kept-numbers : numbers_from w.pointers 1 (w.count - 1) ≡ map recording (kept (view_from t r) n)
  kept-numbers = sym (ways-numbers w 1) ∙ ap (map recording) kept-ways

-- ---- the leftmost leaf

module _ (t : Words) (r l : ℕ) (q : l ≡ word_of t r 2) where
  abbrev v : View
  v = view_from t r

  top : l ≡ height v
  top = q ∙ word-level t r

  pub leaf-none : 15 < l → 0 ≡ first_leaf (view_from t r)
  unfolding first_leaf
  leaf-none h = let z : leb (height v) 15 ≡ false = lt-leb (height v) 15 (omega (arith, top)) in rw (z, first_leaf)

  -- going left from the root down its level, at most 15, comes to the leftmost leaf
  pub leaf-below : l ≤ 15 → leftmost (view_from t r) l r ≡ first_leaf (view_from t r)
  unfolding first_leaf
  leaf-below h = let low : leb (height v) 15 ≡ true =
      le-leb (height v) 15 (omega (arith, top)) in ap (λ (k : ℕ). leftmost v k r) top ∙ rw (low, first_leaf)

  pub last-below : rightmost (view_from t r) l r ≡ last_leaf (view_from t r)
  unfolding last_leaf
  last-below = ap (λ (k : ℕ). rightmost v k r) top

-- a walk down, d levels above the leaves, that is in its leaf
in-leaf : (walk : ℕ → ℕ) (d n m : ℕ) → walk 0 ≡ n → d ≡ 0 → walk d ≡ m → n ≡ m
in-leaf walk d n m e z i = sym e ∙ ap walk (sym z) ∙ i

pub leaf-here : (v : View) (d n m : ℕ) → d ≡ 0 → leftmost v d n ≡ m → n ≡ m
unfolding leftmost
leaf-here v d n m = in-leaf (λ (k : ℕ). leftmost v k n) d n m refl

leftmost-left : (v : View) (d n : ℕ) → leftmost v d (v.node n).left ≡ leftmost v (suc d) n
unfolding leftmost
leftmost-left v d n = refl

pub leaf-down : (t : Words) (r n d e m : ℕ) → d ≡ suc e → m ≡ word_of t n 0 → leftmost (view_from t r) e m ≡ leftmost (view_from t r) d n
leaf-down t r n d e m z q = let v =
    view_from t r in ap (leftmost v e) (q ∙ word-left t n) ∙ leftmost-left v e n ∙ ap (λ (k : ℕ). leftmost v k n) (sym z)

-- ---- the last leaf

-- the last of the ways
last-span : (ks ps : List ℕ) (e i m : ℕ) → last_or e (pointers (span ks ps i (suc m))) ≡ get_or ps (i + m) 0
unfolding last_or span
last-span ks ps e i zero = let z : i ≡ i + 0 = omega arith in ap (λ (j : ℕ). get_or ps j 0) z
last-span ks ps e i (suc m) = let z : suc i + m ≡ i + suc m =
    omega arith in last-span ks ps (get_or ps i 0) (suc i) m ∙ ap (λ (j : ℕ). get_or ps j 0) z

module _ (t : Words) (n : ℕ) (w : Ways) (is : slots_in w ≡ ways (view t) n) where
  -- a node has at least one way, its left
  pub some-way : 1 ≤ w.count
  unfolding span
  some-way = go w.count is
    where
      go : (c : ℕ) → span w.keys w.pointers 0 c ≡ ways (view t) n → 1 ≤ c
      go zero q = let z : ◌≡◌ {A = ℕ} 0 1 = cc in absurd (omega arith)
      go (suc c) q = omega arith

  last-named : get_or w.pointers (w.count - 1) 0 ≡ last_or 0 (named (view t) n)
  last-named =
      let more : w.count ≡ suc (w.count - 1) = omega (arith, some-way) in
      let same : 0 + (w.count - 1) ≡ w.count - 1 = omega arith in
      sym
      (sym (ap (λ (ss : List Slot). last_or 0 (pointers ss)) is) ∙ ap (λ (c : ℕ). last_or 0 (pointers (span w.keys w.pointers 0 c))) more
      ∙ last-span w.keys w.pointers 0 0 (w.count - 1) ∙ ap (λ (i : ℕ). get_or w.pointers i 0) same)

  module _ (last sibling : ℕ) (l : last ≡ get_or w.pointers (w.count - 1) 0) (s : sibling ≡ word_of t last 1) where
    here : sibling ≡ (node_view t last).sibling
    here = s ∙ word-sibling t last

    pub last-alone : sibling ≡ 0 → last ≡ last_child (view t) n
    unfolding or_sibling
    last-alone z = sym (rw (eq-eqb (node_view t last).sibling 0 (sym here ∙ z), or_sibling)) ∙ ap (or_sibling (view t)) (l ∙ last-named)

    pub last-beside : (sibling ≡ 0 → ⊥) → sibling ≡ last_child (view t) n
    unfolding or_sibling
    last-beside z = here ∙ sym (rw (ne_eqb (node_view t last).sibling 0 (λ q. z (here ∙ q)), or_sibling))
        ∙ ap (or_sibling (view t)) (l ∙ last-named)

pub last-here : (v : View) (d n m : ℕ) → d ≡ 0 → rightmost v d n ≡ m → n ≡ m
unfolding rightmost
last-here v d n m = in-leaf (λ (k : ℕ). rightmost v k n) d n m refl

-- the last child does not depend on the root that the reading started from
any-last : (t : Words) (r q n : ℕ) → last_child (view_from t r) n ≡ last_child (view_from t q) n
unfolding or_sibling kept below
any-last t r q n = refl

rightmost-last : (v : View) (d n : ℕ) → rightmost v d (last_child v n) ≡ rightmost v (suc d) n
unfolding rightmost
rightmost-last v d n = refl

pub last-down : (t : Words) (r n d e m : ℕ) → d ≡ suc e → m ≡ last_child (view t) n → rightmost (view_from t r) e m
    ≡ rightmost (view_from t r) d n
last-down t r n d e m z q =
    let v = view_from t r in ap (rightmost v e) (q ∙ any-last t (root t) r n) ∙ rightmost-last v e n
    ∙ ap (λ (k : ℕ). rightmost v k n) (sym z)

-- ---- a number in the leaves

-- what is left: looking on, through these leaves, comes to h
pub record Ahead (t : Words) (r : ℕ) (h : Option Hit) (ns : List ℕ) : Type 0 where
  pub comes-to : first_hit (view t) r ns ≡ h

-- and within a leaf, whose ways are m with the pointers ps, from way j on, with these leaves after it
pub record Within (t : Words) (r : ℕ) (h : Option Hit) (leaf : ℕ) (ns : List ℕ) (m : ℕ) (ps : List ℕ) (j : ℕ) : Type 0 where
  pub comes-to : hit_among r leaf (j - 1) (numbers_from ps j (m - j)) (first_hit (view t) r ns) ≡ h

module _ {t : Words} {r : ℕ} {h : Option Hit} {ns : List ℕ} (k : Ahead t r h ns) where
  pub hit-no-more : ns ≡ [] → None ≡ h
  unfolding first_hit
  hit-no-more z = sym (ap (first_hit (view t) r) z) ∙ k.comes-to

  pub hit-enter : (leaf : ℕ) (later : List ℕ) (w : Ways) → ns ≡ leaf ∷ later → slots_in w ≡ ways (view t) leaf
      → Within t r h leaf later w.count w.pointers 1
  unfolding first_hit
  hit-enter leaf later w more e =
      record {
        comes-to =
            ap (λ (xs : List ℕ). hit_among r leaf 0 xs (first_hit (view t) r later)) (kept-numbers t (root t) leaf w e)
            ∙ sym (ap (first_hit (view t) r) more) ∙ k.comes-to;
      }

module _ {t : Words} {r : ℕ} {h : Option Hit} {leaf : ℕ} {ns : List ℕ} {m : ℕ} {ps : List ℕ} {j : ℕ} (k : Within t r h leaf ns m ps j) where
  abbrev among : List ℕ → Option Hit
  among xs = hit_among r leaf (j - 1) xs (first_hit (view t) r ns)

  pub hit-here : j < m → recording_of (get_or ps j 0) ≡ r → Some (record { node = leaf; slot = j - 1 }) ≡ h
  unfolding hit_among
  hit-here l e = sym (ap among (numbers-next ps j m l) ∙ rw (eq-eqb (recording_of (get_or ps j 0)) r e, hit_among)) ∙ k.comes-to

  pub hit-next : 1 ≤ j → j < m → (recording_of (get_or ps j 0) ≡ r → ⊥) → Within t r h leaf ns m ps (j + 1)
  unfolding hit_among
  hit-next b l e =
      let z : j + 1 - 1 ≡ suc (j - 1) = omega arith in
      record {
        comes-to =
            ap (λ (c : ℕ). hit_among r leaf c (numbers_from ps (j + 1) (m - (j + 1))) (first_hit (view t) r ns)) z
            ∙ sym (ap among (numbers-next ps j m l) ∙ rw (ne_eqb (recording_of (get_or ps j 0)) r e, hit_among)) ∙ k.comes-to;
      }

  pub hit-leave : m ≤ j → Ahead t r h ns
  unfolding hit_among
  hit-leave l = record { comes-to = sym (ap among (numbers-end ps j m l)) ∙ k.comes-to }
