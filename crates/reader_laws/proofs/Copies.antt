-- A search of a copy in which some nodes of a table are missing answers as the table, or is refused with 3.
use Rattle.std.proofs.Common.{◌≡◌, ℕ, zero, suc, ◌+◌, ◌<◌, ◌≤◌, Bool, true, false, ◌&&◌, ◌||◌, eqb, ltb, leb, ◌≢◌, ◌⊎◌, List, length, sym}
use Rattle.std.proofs.Common.{refl, ap, ◌∙◌, inl, inr, arith, eqb-true, leb-true}
use mathlib.Core.Bool.{false≢true}
use mathlib.Core.Option.{Option, none, some}
use borrow.Author.Tests.{eqb-false}
use Rattle.model.specs.declared.Answer.{Answer}
use Rattle.model.specs.declared.Answer.TheVariants.{Absent, Refused}
use Rattle.std.specs.Prelude.{Some, None}
use Rattle.model.specs.Table.{Words, at, node_start, root_word, in_range, header_ok, no_collection, has_node, node, node_from, spare}
use Rattle.model.specs.Slots.{Slot, NodeView, View, node_view, view_of, height}
use Rattle.model.specs.Search.{filter, below, within, moved, route, down, on_level, passes, locate, first_with, kept, first_above}
use Rattle.model.specs.Search.{absent_or, next_from, answer_of, answer_in, search_view, search, Next}
use Rattle.list_laws.proofs.Tools.{decode}
use Rattle.view_laws.proofs.NodeViews.{shown-eq}
use Rattle.table_laws.proofs.Nodes.{node-in, node-out, spare-in}
use Rattle.word_laws.proofs.Outside.{part-same}
use Rattle.word_laws.proofs.Frames.{has-node-same, view-same}
use Rattle.tree_laws.proofs.Cover.{stays, moves}
use Rattle.two_laws.proofs.AcceptedTwo.{there as there-is}
use Rattle.model.specs.Returns.{OfNode}

-- the word of a root lies in the header
pub root-low : (n : ℕ) → (n ≡ 1) ⊎ (n ≡ 2) → root_word n < 8
root-low n (inl e) = omega arith
root-low n (inr e) = omega arith

-- node n of u is that of v, or it is missing: on a level that no search passes
abbrev pub OrMissing : (u v : View) → ℕ → Type 0
OrMissing u v n = (u.node n ≡ v.node n) ⊎ (15 < (u.node n).level)

module _ (u v : View) (N : u.nodes ≡ v.nodes) (same : (n : ℕ) → OrMissing u v n) (k : ℕ) where
  -- ---- a node that a search passes is there, and so is its sibling

  there : (l n : ℕ) → l ≤ 15 → on_level u l n ≡ true → u.node n ≡ v.node n
  unfolding on_level
  there l n h e = go (same n) (simp decode at e).1
    where
      go : OrMissing u v n → (u.node n).level ≡ l → u.node n ≡ v.node n
      go (inl q) z = q
      go (inr q) z = absurd (omega arith)

  level-same : (l n : ℕ) → u.node n ≡ v.node n → on_level u l n ≡ on_level v l n
  unfolding on_level
  level-same l n e = ap (λ (m : ℕ). in_range m n && eqb (u.node n).level l) N ∙ ap (λ (x : NodeView). in_range v.nodes n && eqb x.level l) e

  pub record Agrees (n : ℕ) : Type 0 where
    pub here : u.node n ≡ v.node n
    pub next : (u.node n).sibling ≢ 0 → u.node (u.node n).sibling ≡ v.node (u.node n).sibling

  agrees : (l n : ℕ) → l ≤ 15 → passes u l n ≡ true → Agrees n
  unfolding passes
  agrees l n h e =
      let p = (simp decode at e) in
      record { here = there l n h p.0; next = λ z. there l (u.node n).sibling h (next z p.1) }
    where
      next : (u.node n).sibling ≢ 0 → eqb (u.node n).sibling 0 || on_level u l (u.node n).sibling ≡ true
          → on_level u l (u.node n).sibling ≡ true
      next z q = go (eqb (u.node n).sibling 0) refl q
        where
          go : (b : Bool) → eqb (u.node n).sibling 0 ≡ b → b || on_level u l (u.node n).sibling ≡ true
              → on_level u l (u.node n).sibling ≡ true
          go true c q = absurd (z (eqb-true (u.node n).sibling 0 c))
          go false c q = q

  module _ (n : ℕ) (a : Agrees n) where
    sibling : (u.node n).sibling ≡ (v.node n).sibling
    sibling = ap (λ (x : NodeView). x.sibling) a.here

    passes-same : (l : ℕ) → passes u l n ≡ passes v l n
    unfolding passes
    passes-same l = go (eqb (u.node n).sibling 0) refl
      where
        go : (b : Bool) → eqb (u.node n).sibling 0 ≡ b → passes u l n ≡ passes v l n
        go true c = rw (level-same l n a.here, sym sibling, c, passes)
        go false c = rw (
          level-same l n a.here,
          sym sibling,
          level-same l (u.node n).sibling (a.next (eqb-false (u.node n).sibling 0 c)),
          passes,
        )

    within-same : (j : ℕ) → within u n j ≡ within v n j
    unfolding below
    within-same j = go (eqb (u.node n).sibling 0) refl
      where
        go : (b : Bool) → eqb (u.node n).sibling 0 ≡ b → below u (u.node n).sibling j ≡ below v (v.node n).sibling j
        go true c = rw (sym sibling, c, below)
        go false c = rw (sym sibling, c, below) (ap (λ (x : NodeView). ltb j x.fence) (a.next (eqb-false (u.node n).sibling 0 c)))

    kept-same : kept u n ≡ kept v n
    unfolding kept
    kept-same = ap (λ (ss : List Slot). filter (λ (s : Slot). within u n s.key) ss) (shown-eq a.here)
        ∙ (λ i. filter (λ (s : Slot). within-same s.key i) (v.node n).shown)

    -- what the search stands on
    stood-same : (moved u n k ≡ moved v n k) × (u.node (moved u n k) ≡ v.node (moved u n k))
    unfolding below
    stood-same = go (within u n k) refl
      where
        some-sibling : within u n k ≡ false → (u.node n).sibling ≢ 0
        some-sibling e z = false≢true (sym e ∙ ap (λ (s : ℕ). eqb s 0 || ltb k (u.node s).fence) z)

        go : (b : Bool) → within u n k ≡ b → (moved u n k ≡ moved v n k) × (u.node (moved u n k) ≡ v.node (moved u n k))
        go true e = rw (stays u k n e, stays v k n (sym (within-same k) ∙ e)) (refl, a.here)
        go false e = rw (moves u k n e, moves v k n (sym (within-same k) ∙ e)) (sibling, a.next (some-sibling e))

  -- ---- the leaf, found in both with the same words, or not in the copy

  abbrev Located : (l n : ℕ) → Type 0
  Located l n = (locate u l n k ≡ none) ⊎ ((m : ℕ) × (locate u l n k ≡ some m) × (locate v l n k ≡ some m) × (u.node m ≡ v.node m))

  located : (l n : ℕ) → l ≤ 15 → Located l n
  unfolding locate
  located zero n h = go (passes u 0 n) refl
    where
      go : (b : Bool) → passes u 0 n ≡ b → Located 0 n
      go false e = inl (rw (e, locate))
      go true e =
          let a = agrees 0 n h e in
          let s = stood-same n a in
          inr (moved u n k, rw (e, locate), rw (sym (passes-same n a 0) ∙ e, locate) (ap some (sym s.0)), s.1)
  located (suc l) n h = go (passes u (suc l) n) refl (λ m. located l m (omega arith))
    where
      go : (b : Bool) → passes u (suc l) n ≡ b → ((m : ℕ) → Located l m) → Located (suc l) n
      go false e ih = inl (rw (e, locate))
      go true e ih = by (ih (down u (moved u n k) k))
        where
          a : Agrees n
          a = agrees (suc l) n h e

          way : down u (moved u n k) k ≡ down v (moved v n k) k
          way = ap (λ (x : NodeView). route k x.left x.shown) (stood-same n a).1 ∙ ap (λ (m : ℕ). down v m k) (stood-same n a).0

          by : Located l (down u (moved u n k) k) → Located (suc l) n
          by (inl q) = inl (rw (e, locate) q)
          by (inr (m, p, q, r)) =
              inr (m, rw (e, locate) p, rw (sym (passes-same n a (suc l)) ∙ e, locate) (ap (λ (x : ℕ). locate v l x k) (sym way) ∙ q), r)

  -- ---- the next code up

  abbrev SameOr3 : (a b : Answer) → Type 0
  SameOr3 a b = (a ≡ b) ⊎ (a ≡ Refused 3)

  to-same : (a b c : Answer) → SameOr3 a b → b ≡ c → SameOr3 a c
  to-same a b c (inl p) e = inl (p ∙ e)
  to-same a b c (inr p) e = inr p

  absent-same : (x : Next) (a b : Answer) → SameOr3 a b → SameOr3 (absent_or x a) (absent_or x b)
  absent-same (Some j) a b h = inl refl
  absent-same None a b h = h

  next-same : (c n : ℕ) → SameOr3 (next_from u c n k) (next_from v c n k)
  unfolding next_from
  next-same zero n = inl refl
  next-same (suc c) n = go (passes u 0 n) refl (next-same c)
    where
      go : (b : Bool) → passes u 0 n ≡ b → ((m : ℕ) → SameOr3 (next_from u c m k) (next_from v c m k))
          → SameOr3 (next_from u (suc c) n k) (next_from v (suc c) n k)
      go false e ih = inr (rw (e, next_from))
      go true e ih = by (eqb (u.node n).sibling 0) refl
        where
          a : Agrees n
          a = agrees 0 n (omega arith) e

          first : first_above k (kept u n) ≡ first_above k (kept v n)
          first = ap (first_above k) (kept-same n a)

          by : (b : Bool) → eqb (u.node n).sibling 0 ≡ b → SameOr3 (next_from u (suc c) n k) (next_from v (suc c) n k)
          by true q =
              let q' : eqb (v.node n).sibling 0 ≡ true = ap (λ (s : ℕ). eqb s 0) (sym (sibling n a)) ∙ q in
              inl (rw (e, sym (passes-same n a 0) ∙ e, q, q', next_from) (ap (λ (x : Next). absent_or x (Absent None)) first))
          by false q =
              let q' : eqb (v.node n).sibling 0 ≡ false = ap (λ (s : ℕ). eqb s 0) (sym (sibling n a)) ∙ q in
              rw (e, sym (passes-same n a 0) ∙ e, q, q', next_from)
              (to-same _ _ _ (absent-same (first_above k (kept u n)) _ _ (ih (u.node n).sibling))
              (ap (λ (x : Next). absent_or x (next_from v c (u.node n).sibling k)) first
              ∙ ap (λ (s : ℕ). absent_or (first_above k (kept v n)) (next_from v c s k)) (sibling n a)))

  -- ---- the answer

  answer-same : (f : Option Slot) (a b : Answer) → SameOr3 a b → SameOr3 (answer_of f a) (answer_of f b)
  answer-same none a b h = h
  answer-same (some s) a b h = inl refl

  in-leaf : (m : ℕ) → u.node m ≡ v.node m → SameOr3 (answer_in u k (some m)) (answer_in v k (some m))
  in-leaf m e =
      to-same _ _ _ (answer-same (first_with k (u.node m).shown) _ _ (next-same u.nodes m))
      (ap (λ (ss : List Slot). answer_of (first_with k ss) (next_from v u.nodes m k)) (shown-eq e)
      ∙ ap (λ (c : ℕ). answer_of (first_with k (v.node m).shown) (next_from v c m k)) N)

  at-leaf : (l n : ℕ) → l ≤ 15 → SameOr3 (answer_in u k (locate u l n k)) (answer_in v k (locate v l n k))
  at-leaf l n h = go (located l n h)
    where
      go : Located l n → SameOr3 (answer_in u k (locate u l n k)) (answer_in v k (locate v l n k))
      go (inl e) = inr (ap (answer_in u k) e)
      go (inr (m, p, q, r)) = rw (p, q) (in-leaf m r)

  -- A search of the copy answers as the table, or is refused with 3.
  pub copy-search : u.root ≡ v.root → (search_view u k ≡ search_view v k) ⊎ (search_view u k ≡ Refused 3)
  unfolding search_view
  copy-search e = go (leb (height u) 15) refl
    where
      go : (b : Bool) → leb (height u) 15 ≡ b → SameOr3 (search_view u k) (search_view v k)
      go false q = inr (rw (q, search_view))
      go true q =
          rw (q, ap (λ (h : ℕ). leb h 15) (sym top) ∙ q, search_view)
          (to-same _ _ _ (at-leaf (height u) u.root low)
          (ap (λ (h : ℕ). answer_in v k (locate v h u.root k)) top ∙ ap (λ (r : ℕ). answer_in v k (locate v (height v) r k)) e))
        where
          low : height u ≤ 15
          low = leb-true (height u) 15 q

          by : OrMissing u v u.root → height u ≡ height v
          by (inl p) = ap (λ (x : NodeView). x.level) p ∙ ap (λ (r : ℕ). (v.node r).level) e
          by (inr z) = absurd (omega (arith, low))

          top : height u ≡ height v
          top = by (same u.root)

-- ---- of tables

module _ (t u : Words) (long : length u ≡ length t) (header : (w : ℕ) → w < 8 → at u w ≡ at t w) where
  -- a node all of whose words are copied
  node-copied : (m : ℕ) → ((w : ℕ) → OfNode m w → at u w ≡ at t w) → node_view u m ≡ node_view t m
  unfolding node_from spare
  node-copied m h = view-same t u m (go (has_node t m) refl) (other (has_node t m) refl)
    where
      w : ℕ
      w = node_start m

      go : (b : Bool) → has_node t m ≡ b → node u m ≡ node t m
      go true e =
          let words : node_from u (node_start m) ≡ node_from t (node_start m) = λ i. record {
            left = h w (omega arith, omega arith) i;
            sibling = h (w + 1) (omega arith, omega arith) i;
            level = h (w + 2) (omega arith, omega arith) i;
            fence = h (w + 3) (omega arith, omega arith) i;
            slots = part-same t u long (w + 8) 24 (λ x a b. h x (omega arith, omega arith)) i;
          } in
          node-in u m (has-node-same t u m long ∙ e) ∙ words ∙ sym (node-in t m e)
      go false e = node-out u m (has-node-same t u m long ∙ e) ∙ sym (node-out t m e)

      other : (b : Bool) → has_node t m ≡ b → spare u m ≡ spare t m
      other true e = spare-in u m (has-node-same t u m long ∙ e)
          ∙ part-same t u long (w + 4) 4 (λ x a b. h x (omega arith, omega arith)) ∙ sym (spare-in t m e)
      other false e = rw (has-node-same t u m long ∙ e, e, spare)

  pub head-same : header_ok u ≡ header_ok t
  unfolding header_ok
  head-same = rw (
    long,
    header 0 (omega arith),
    header 1 (omega arith),
    header 2 (omega arith),
    header 3 (omega arith),
    part-same t u long 4 4 (λ w a b. header w (omega arith)),
  )

  pub lack-same : (n : ℕ) → no_collection n u ≡ no_collection n t
  unfolding no_collection
  lack-same n = rw (header 3 (omega arith))

  pub copy-answers : ((m : ℕ) → ((w : ℕ) → OfNode m w → at u w ≡ at t w) ⊎ (15 < (node_view u m).level)) → (n k : ℕ)
      → (search n u k ≡ search n t k) ⊎ (search n u k ≡ Refused 3)
  unfolding search
  copy-answers h n k = go (header_ok t) (no_collection n t) refl refl
    where
      root : no_collection n t ≡ false → at u (root_word n) ≡ at t (root_word n)
      root q = header (root_word n) (root-low n (there-is n t q).0)

      nodes-same : (m : ℕ) → OrMissing (view_of n u) (view_of n t) m
      nodes-same m = by (h m)
        where
          by : ((w : ℕ) → OfNode m w → at u w ≡ at t w) ⊎ (15 < (node_view u m).level) → OrMissing (view_of n u) (view_of n t) m
          by (inl f) = inl (node-copied m f)
          by (inr z) = inr z

      go : (a b : Bool) → header_ok t ≡ a → no_collection n t ≡ b → (search n u k ≡ search n t k) ⊎ (search n u k ≡ Refused 3)
      go false b p q = inl (rw (head-same ∙ p, p, search))
      go true true p q = inl (rw (head-same ∙ p, lack-same n ∙ q, p, q, search))
      go true false p q = rw (head-same ∙ p, lack-same n ∙ q, p, q, search)
          (copy-search (view_of n u) (view_of n t) (header 2 (omega arith)) nodes-same k (root q))
