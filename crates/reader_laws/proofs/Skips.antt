-- A node passed over by its left neighbour, as a freed leaf is: a search that comes to its level is right, also one that stands on it.
use Rattle.std.proofs.Common.{◌≡◌, ℕ, ◌<◌, ◌≤◌, Bool, true, false, ◌&&◌, ◌||◌, eqb, ltb, leb, ◌≢◌, ◌⊎◌, sym, refl, ap, ◌∙◌, inl, inr, arith}
use Rattle.std.proofs.Common.{ltb-false, ltb-true, lt-ltb, eqb-true, leb-false, leb-true}
use mathlib.Core.Bool.{false≢true}
use borrow.Author.Tests.{eqb-false}
use Rattle.model.specs.Table.{in_range}
use Rattle.model.specs.Slots.{NodeView, View}
use Rattle.model.specs.Search.{below, within, on_level}
use Rattle.model.specs.Looks.{seen_on, seen_pass, seen_within}
use Rattle.view_laws.proofs.NodeViews.{left_of, sibling_of, fence_of, shown_of}
use Rattle.list_laws.proofs.Tools.{or-right, same-or-not}
use Rattle.list_laws.proofs.Members.{each-mem}
use Rattle.tree_laws.proofs.Rows.{Good, sib-facts, not-zero}
use Rattle.tree_laws.proofs.Levels.{Orderly}
use Rattle.tree_laws.proofs.Cover.{stays, moves, below-true}
use Rattle.tree_laws.proofs.SearchLaw.{Stands}
use Rattle.step_laws.proofs.Standing.{stands}
use Rattle.step_laws.proofs.Rowwise.{OnRow, Same, Lasts, Comes, same-lasts, sibling-row, row-range, stands-at, stands-comes, same-stands}
use Rattle.step_laws.proofs.Rowwise.{same-comes}
use Rattle.step_laws.proofs.LevelCourses.{Skipped}
use Rattle.reader_laws.proofs.TwoLooks.{StaysOrMoves, TwoLooks, two-looks}
use Rattle.reader_laws.proofs.Walk.{WasLeaf, Leaves}
use Rattle.reader_laws.proofs.Moments.{first, second, Looked, Arrives}
use Rattle.reader_laws.proofs.Histories.{looked-here, looked-next}

-- ---- one skip

module _ (l a b : ℕ) (v w : View) (ov : Orderly v) (ow : Orderly w) (s : Skipped l a b v w) where
  b-some : b ≢ 0
  b-some = not-zero v b (row-range v ov l b s.b-row)

  b-above : (v.node a).fence < (v.node b).fence
  b-above = rw s.next at (sib-facts v a (each-mem (Good v) ov.good s.a-row.0) (λ z. b-some (sym s.next ∙ z))).fence

  pub apart : b ≢ a
  apart e = omega (arith, b-above, ap (fence_of v) e)

  -- two nodes of a level have no sibling in common
  only : (n : ℕ) → OnRow v l n → (v.node n).sibling ≡ b → n ≡ a
  unfolding below
  only n r e = go (leb (v.node n).fence (v.node a).fence) refl
    where
      n-above : (v.node n).fence < (v.node b).fence
      n-above = rw e at (sib-facts v n (each-mem (Good v) ov.good r.0) (λ z. b-some (sym e ∙ z))).fence

      in-range : (m k : ℕ) → (v.node m).sibling ≡ b → k < (v.node b).fence → within v m k ≡ true
      in-range m k q h = rw q (or-right (eqb b 0) _ (lt-ltb k (v.node b).fence h))

      both : (k : ℕ) → (v.node n).fence ≤ k → (v.node a).fence ≤ k → k < (v.node b).fence → n ≡ a
      both k f g h = sym (stands-at v ov k l n (stands v k l n ov r.0 r.1 f (in-range n k e h))).1
          ∙ (stands-at v ov k l a (stands v k l a ov s.a-row.0 s.a-row.1 g (in-range a k s.next h))).1

      go : (c : Bool) → leb (v.node n).fence (v.node a).fence ≡ c → n ≡ a
      go true q = both (v.node a).fence (leb-true _ _ q) (omega arith) b-above
      go false q = let h : (v.node a).fence < (v.node n).fence =
          leb-false (v.node n).fence (v.node a).fence q in both (v.node n).fence (omega arith) (omega arith) n-above

  below-same : (m k : ℕ) → below w m k ≡ below v m k
  unfolding below
  below-same m k = ap (λ (x : ℕ). eqb m 0 || ltb k x) (s.fence m)

  -- a takes over b's range
  a-within : (k : ℕ) → within w a k ≡ within v b k
  a-within k = ap (λ (m : ℕ). below w m k) s.a-sibling ∙ below-same (v.node b).sibling k

  further : (k : ℕ) → k < (v.node b).fence → within v b k ≡ true
  unfolding below
  further k h = go (eqb (v.node b).sibling 0) refl
    where
      go : (c : Bool) → eqb (v.node b).sibling 0 ≡ c → within v b k ≡ true
      go true e = rw e
      go false e =
          let f = (sib-facts v b (each-mem (Good v) ov.good s.b-row.0) (eqb-false _ _ e)).fence in
          or-right (eqb (v.node b).sibling 0) _ (lt-ltb k (v.node (v.node b).sibling).fence (omega arith))

  -- what stood and is not b stands
  pub skip-stands : (k n : ℕ) → n ≢ b → Stands v k l n → Stands w k l n
  skip-stands k n z c =
      let q = s.row n (c.reached, c.covers.at.level) z in
      stands w k l n ow q.0 q.1 (rw (s.fence n) c.covers.fence) (go (eqb n a) refl)
    where
      go : (d : Bool) → eqb n a ≡ d → within w n k ≡ true
      go true e =
          let q = eqb-true n a e in
          let h : k < (v.node b).fence =
          below-true v k b b-some (ap (λ (m : ℕ). below v m k) (sym (ap (sibling_of v) q ∙ s.next)) ∙ c.covers.inside) in
          ap (λ (m : ℕ). within w m k) q ∙ a-within k ∙ further k h
      go false e = ap (λ (m : ℕ). below w m k) (s.sibling n (eqb-false n a e)) ∙ below-same (v.node n).sibling k ∙ c.covers.inside

  pub skip-comes : (k n : ℕ) → n ≢ b → Comes v k l n → Comes w k l n
  skip-comes k n z c = go (within v n k) (eqb (v.node n).sibling b) refl refl
    where
      go : (d e : Bool) → within v n k ≡ d → eqb (v.node n).sibling b ≡ e → Comes w k l n
      go true e p q = stands-comes w ow k l n (skip-stands k n z (rw (stays v k n p) at c.stands))
      go false true p q =
          let e = eqb-true (v.node n).sibling b q in
          let y = only n c.row e in
          let d : Stands v k l b = rw (moves v k n p ∙ e) at c.stands in
          let r = s.row a s.a-row (λ x. apart (sym x)) in
          rw y (stands-comes w ow k l a
          (stands w k l a ow r.0 r.1 (rw (s.fence a) (omega (arith, b-above, d.covers.fence))) (a-within k ∙ d.covers.inside)))
      go false false p q =
          let e = eqb-false (v.node n).sibling b q in
          let y : n ≢ a = λ x. e (ap (sibling_of v) x ∙ s.next) in
          let g = s.sibling n y in
          let out : within w n k ≡ false = ap (λ (m : ℕ). below w m k) g ∙ below-same (v.node n).sibling k ∙ p in
          record {
            row = s.row n c.row z;
            stands = rw (moves w k n out ∙ g) (skip-stands k (v.node n).sibling e (rw (moves v k n p) at c.stands));
          }

-- ---- a node seen with the same level and sibling

same-pass : (N l n : ℕ) (x x' : NodeView) (g : ℕ → NodeView) → x.level ≡ x'.level → x.sibling ≡ x'.sibling → seen_pass N l n x (g x.sibling)
    ≡ seen_pass N l n x' (g x'.sibling)
unfolding seen_pass seen_on on_level
same-pass N l n x x' g e f = λ i. (in_range N n && eqb (e i) l) && (eqb (f i) 0 || (in_range N (f i) && eqb (g (f i)).level l))

same-inside : (x x' : NodeView) (g : ℕ → NodeView) (k : ℕ) → x.sibling ≡ x'.sibling → seen_within x (g x.sibling) k
    ≡ seen_within x' (g x'.sibling) k
unfolding seen_within below
same-inside x x' g k f = λ i. eqb (f i) 0 || ltb k (g (f i)).fence

-- ---- over the moments

-- level l up to the moment `last` and from the next one on, which has passed over b
pub record Skipping (w : ℕ → View) (l : ℕ) : Type 0 where
  pub a : ℕ
  pub b : ℕ
  pub last : ℕ
  pub early : (i j : ℕ) → i ≤ last → j ≤ last → Same l (w i) (w j)
  pub skips : (j : ℕ) → last < j → Skipped l a b (w last) (w j)
  pub late : (i j : ℕ) → last < i → last < j → Same l (w i) (w j)

module _ (w : ℕ → View) (orderly : (i : ℕ) → Orderly (w i)) (l : ℕ) (y : Skipping w l) where
  abbrev b : ℕ
  b = y.b

  abbrev last : ℕ
  last = y.last

  -- b's sibling stays
  b-sibling : (i : ℕ) → last < i → ((w i).node b).sibling ≡ ((w last).node b).sibling
  b-sibling i g = (y.skips i g).sibling b (apart l y.a b (w last) (w i) (orderly last) (orderly i) (y.skips i g))

  skip-lasts : (i j : ℕ) → i ≤ j → Lasts l (w i) (w j)
  skip-lasts i j h = go (ltb last i) (ltb last j) refl refl
    where
      go : (c d : Bool) → ltb last i ≡ c → ltb last j ≡ d → Lasts l (w i) (w j)
      go true d p q = let g = ltb-true last i p in same-lasts l (w i) (w j) (y.late i j g (omega arith))
      go false false p q = same-lasts l (w i) (w j) (y.early i j (ltb-false last i p) (ltb-false last j q))
      go false true p q =
          let e = y.early i last (ltb-false last i p) (omega arith) in
          let s = y.skips j (ltb-true last j q) in
          record { level = λ n r. s.level n ∙ (e.there n r).1; fence = λ n r. s.fence n ∙ e.fence n r }

  -- what was on the level is on it, but that b is then passed over
  skip-row : (i j n : ℕ) → i ≤ j → OnRow (w i) l n → OnRow (w j) l n ⊎ ((n ≡ b) × (last < j) × OnRow (w last) l b)
  skip-row i j n h r = go (ltb last i) (ltb last j) refl refl (same-or-not n b)
    where
      go : (c d : Bool) → ltb last i ≡ c → ltb last j ≡ d → (n ≡ b) ⊎ (n ≢ b) → OnRow (w j) l n
          ⊎ ((n ≡ b) × (last < j) × OnRow (w last) l b)
      go true d p q e = let g = ltb-true last i p in inl ((y.late i j g (omega arith)).there n r)
      go false false p q e = inl ((y.early i j (ltb-false last i p) (ltb-false last j q)).there n r)
      go false true p q (inl e) = let g = ltb-true last j q in inr (e, g, (y.skips j g).b-row)
      go false true p q (inr z) =
          inl ((y.skips j (ltb-true last j q)).row n ((y.early i last (ltb-false last i p) (omega arith)).there n r) z)

  -- ---- searches

  module _ (N k : ℕ) (nodes : (i : ℕ) → (w i).nodes ≡ N) where
    same-at : (i j : ℕ) → Same l (w i) (w j) → (m : ℕ) → Stands (w i) k l m → Stands (w j) k l m
    same-at i j s m = same-stands (w i) (w j) (orderly i) (orderly j) l s k m

    skip-at : (j : ℕ) → last < j → (m : ℕ) → m ≢ b → Stands (w last) k l m → Stands (w j) k l m
    skip-at j g m z = skip-stands l y.a b (w last) (w j) (orderly last) (orderly j) (y.skips j g) k m z

    looks : (n i j : ℕ) → i ≤ j → Comes (w i) k l n → TwoLooks (w i) (w j) N k l n
    looks n i j h c = two-looks (w i) (w j) N k l n (orderly i) (nodes i) (skip-lasts i j h) c

    early-looks : (n i j : ℕ) → i ≤ last → i ≤ j → Comes (w i) k l n → Looked w N k l n i j
    early-looks n i j g h c = let u = looks n i j h c in from u u.stands
      where
        m : ℕ
        m = ((w i).node n).sibling

        moved-to : (u : TwoLooks (w i) (w j) N k l n) → seen_within (first w n i) (second w n i j) k ≡ false
            → Stands (w i) k l m → Looked w N k l n i j
        moved-to u e s = go (ltb last j) (same-or-not m b) refl
          where
            at-last : Stands (w last) k l m
            at-last = same-at i last (y.early i last g (omega arith)) m s

            go : (d : Bool) → (m ≡ b) ⊎ (m ≢ b) → ltb last j ≡ d → Looked w N k l n i j
            go false r q = looked-next w N k l n i j h u.passes e j (omega arith) refl refl
                (same-at i j (y.early i j g (ltb-false last j q)) m s)
            go true (inl r) q =
                let f = ltb-true last j q in
                let a = y.skips j f in
                looked-next w N k l n i j h u.passes e last (omega arith) (ap (left_of (w j)) r ∙ a.b-left ∙ ap (left_of (w last)) (sym r))
                (ap (shown_of (w j)) r ∙ a.b-shown ∙ ap (shown_of (w last)) (sym r)) at-last
            go true (inr z) q = looked-next w N k l n i j h u.passes e j (omega arith) refl refl (skip-at j (ltb-true last j q) m z at-last)

        from : (u : TwoLooks (w i) (w j) N k l n) → StaysOrMoves (w i) (w j) k l n → Looked w N k l n i j
        from u (inl a) = looked-here w N k l n i j h u.passes a.1 i h refl refl a.0
        from u (inr a) = moved-to u a.2 a.1

    late-looks : (n i j : ℕ) → last < i → i ≤ j → Comes (w i) k l n → Looked w N k l n i j
    late-looks n i j g h c = let u = looks n i j h c in from u u.stands
      where
        from : (u : TwoLooks (w i) (w j) N k l n) → StaysOrMoves (w i) (w j) k l n → Looked w N k l n i j
        from u (inl a) = looked-here w N k l n i j h u.passes a.1 i h refl refl a.0
        from u (inr a) = looked-next w N k l n i j h u.passes a.2 j (omega arith) refl refl
            (same-at i j (y.late i j g (omega arith)) ((w i).node n).sibling a.1)

    -- b is looked at when it has been passed over, and is seen as it was
    module _ (i j : ℕ) (g : last < i) (h : i ≤ j) (c : Comes (w last) k l y.b) where
      u : TwoLooks (w last) (w j) N k l b
      u = looks b last j (omega arith) c

      pass : seen_pass N l b (first w b i) (second w b i j) ≡ true
      pass = same-pass N l b (first w b i) (first w b last) (λ (m : ℕ). (w j).node m) ((y.skips i g).level b) (b-sibling i g) ∙ u.passes

      inside : seen_within (first w b i) (second w b i j) k ≡ seen_within (first w b last) (second w b last j) k
      inside = same-inside (first w b i) (first w b last) (λ (m : ℕ). (w j).node m) k (b-sibling i g)

      -- its sibling is another
      on : ((w last).node b).sibling ≢ 0 → ((w last).node b).sibling ≢ b
      on z e = omega (
        arith,
        (sib-facts (w last) b (each-mem (Good (w last)) (orderly last).good (y.skips i g).b-row.0) z).fence,
        ap (fence_of (w last)) e,
      )

      b-looks : Looked w N k l y.b i j
      b-looks = from u.stands
        where
          from : StaysOrMoves (w last) (w j) k l b → Looked w N k l b i j
          from (inl a) = looked-here w N k l b i j h pass (inside ∙ a.1) last (omega arith) (y.skips i g).b-left (y.skips i g).b-shown a.0
          from (inr a) =
              let some : ((w last).node b).sibling ≢ 0 =
              λ z. false≢true (sym a.0 ∙ ap (λ (m : ℕ). below (w last) m k) z ∙ unfold below in refl) in
              looked-next w N k l b i j h pass (inside ∙ a.2) j (omega arith) refl refl
              (rw (b-sibling i g) (skip-at j (omega arith) ((w last).node b).sibling (on some) a.1))

    pub skip-arrives : Arrives w N k l
    skip-arrives x n c f i j g h = go (ltb last i) (ltb last x) refl refl (same-or-not n b)
      where
        at-last : x ≤ last → Comes (w last) k l n
        at-last q = same-comes (w x) (w last) (orderly x) (orderly last) l (y.early x last q (omega arith)) k n c

        go : (d e : Bool) → ltb last i ≡ d → ltb last x ≡ e → (n ≡ b) ⊎ (n ≢ b) → Looked w N k l n i j
        go false e p q s = let u =
            ltb-false last i p in early-looks n i j u h
            (same-comes (w x) (w i) (orderly x) (orderly i) l (y.early x i (omega arith) u) k n c)
        go true true p q s = let u =
            ltb-true last i p in late-looks n i j u h
            (same-comes (w x) (w i) (orderly x) (orderly i) l (y.late x i (ltb-true last x q) u) k n c)
        go true false p q (inl e) = rw e (b-looks i j (ltb-true last i p) h (rw e at (at-last (ltb-false last x q))))
        go true false p q (inr z) =
            let u = ltb-true last i p in
            late-looks n i j u h
            (skip-comes l y.a b (w last) (w i) (orderly last) (orderly i) (y.skips i u) k n z (at-last (ltb-false last x q)))

-- the leaves
pub skip-leaves : (w : ℕ → View) → ((i : ℕ) → Orderly (w i)) → Skipping w 0 → Leaves w
skip-leaves w orderly y = record { lasts = skip-lasts w orderly 0 y; next = next }
  where
    next : (i j n : ℕ) → i ≤ j → OnRow (w i) 0 n → ((w j).node n).sibling ≢ 0 → WasLeaf w j ((w j).node n).sibling
        × (((w j).node n).fence < ((w j).node ((w j).node n).sibling).fence)
    next i j n h r z = go (skip-row w orderly 0 y i j n h r)
      where
        go : OnRow (w j) 0 n ⊎ ((n ≡ y.b) × (y.last < j) × OnRow (w y.last) 0 y.b) → WasLeaf w j ((w j).node n).sibling
            × (((w j).node n).fence < ((w j).node ((w j).node n).sibling).fence)
        go (inl q) = (
          (j, omega arith, sibling-row (w j) (orderly j) 0 n q z),
          (sib-facts (w j) n (each-mem (Good (w j)) (orderly j).good q.0) z).fence,
        )
        go (inr (e, g, q)) =
            let last = y.last in
            let b = y.b in
            let s = ((w last).node b).sibling in
            let same : ((w j).node n).sibling ≡ s = ap (sibling_of (w j)) e ∙ b-sibling w orderly 0 y j g in
            let some : s ≢ 0 = λ x. z (same ∙ x) in
            let up = (sib-facts (w last) b (each-mem (Good (w last)) (orderly last).good q.0) some).fence in
            let f = (y.skips j g).fence in
            rw same (
              (last, omega arith, sibling-row (w last) (orderly last) 0 b q some),
              omega (arith, up, f n, f s, ap (fence_of (w last)) e),
            )
