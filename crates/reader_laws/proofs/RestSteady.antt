-- The splits of an insertion and its shift in at the leaf: a word of the header or of a node that is reached before them is steady.
use Rattle.std.proofs.Common.{◌≡◌, ℕ, zero, suc, ◌+◌, ◌<◌, ◌≤◌, true, ◌≢◌, ◌⊎◌, List, [], ◌∷◌, ◌++◌, length, sym, refl, ap, ◌∙◌, subst, inl}
use Rattle.std.proofs.Common.{inr, append-nil, arith}
use Rattle.model.specs.Table.{Words, at, nodes, root_word, node_start}
use Rattle.model.specs.Slots.{node_view, view_of, height}
use Rattle.model.specs.Reached.{reached_all}
use Rattle.model.specs.SoundTest.{elem, settled}
use Rattle.model.specs.Orders.{Store, put, apply}
use Rattle.model.specs.Shifts.{pointer_word}
use Rattle.model.specs.Writes.{shift_in_at, fresh, middle, standing}
use Rattle.model.specs.Returns.{OfNode}
use Rattle.list_laws.proofs.Tools.{Each, same-or-not}
use Rattle.list_laws.proofs.Members.{each-elem}
use Rattle.list_laws.proofs.Distinct.{UpTo}
use Rattle.table_laws.proofs.Nodes.{has-node-iff}
use Rattle.step_laws.proofs.Split.{split-standing, split-height}
use Rattle.two_laws.specs.Parts.{split_for}
use Rattle.two_laws.proofs.SameTwo.{settled-sound}
use Rattle.two_laws.proofs.CollectionTwo.{reached-up}
use Rattle.two_laws.proofs.LeafStores.{shift-in-into}
use Rattle.two_laws.proofs.PartsTwo.{Plain, settled-plain, standing-reached}
use Rattle.reader_laws.proofs.Values.{values_to, values-append, values-here, values-past, value-same, value-one, Steady, steady-one}
use Rattle.reader_laws.proofs.Values.{steady-lost, steady-after, inside-or-not, into-none}
use Rattle.reader_laws.proofs.ShiftValues.{shift-in-steady, one-put, none-put, shown-word}
use Rattle.reader_laws.proofs.SettledNodes.{own-fine, reached-some, reached-few, standing-level}
use Rattle.reader_laws.proofs.SplitValues.{one-node, no-header, shift-none, Going, new_at, key_at, rest, rest-zero, rest-suc, going-next}
use Rattle.reader_laws.proofs.SplitValues.{stays-reached, new-some, new-fresh, middle-new}
use Rattle.reader_laws.proofs.SplitValues.{ns, a-reached, b-free, full-node, a-some, p-some, b-some, not-b, a-all, p-all, split-none}
use Rattle.reader_laws.proofs.SplitValues.{split-a, split-p}
use Rattle.reader_laws.proofs.SplitLevels.{standing-split}
use Rattle.reader_laws.proofs.SplitNode.{pointer-some, cut-lost}

-- word w is of the header or of a node that some root reaches
abbrev pub Known : Words → (w : ℕ) → Type 0
Known t w = (w < 8) ⊎ ((m : ℕ) × (elem m (reached_all t) ≡ true) × OfNode m w)

pub some-node : (t : Words) → settled t ≡ true → (m : ℕ) → elem m (reached_all t) ≡ true → 1 ≤ m
some-node t s m i = (each-elem (UpTo (nodes t)) m (reached_all t) i (reached-up t (settled-sound t s))).0

-- a word of node m is of no other node that is reached, and none of the header's is
known-same : (t : Words) → settled t ≡ true → (w m : ℕ) → Known t w → 1 ≤ m → OfNode m w → elem m (reached_all t) ≡ true
known-same t s w m (inl l) i j = absurd (no-header m w l j)
known-same t s w m (inr (x, r, o)) i j = subst (λ (z : ℕ). elem z (reached_all t) ≡ true) (one-node x m w (some-node t s x r) i o j) r

node-or-not : (m w : ℕ) → OfNode m w ⊎ (OfNode m w → ⊥)
node-or-not m w = go (inside-or-not (node_start m) 32 w)
  where
    go : ((node_start m ≤ w) × (w < node_start m + 32)) ⊎ (node_start m ≤ w → w < node_start m + 32 → ⊥) → OfNode m w ⊎ (OfNode m w → ⊥)
    go (inl i) = inl i
    go (inr z) = inr (λ o. z o.0 o.1)

module _ (n k y : ℕ) where
  -- ---- after one split

  module _ (l : ℕ) (t : Words) (g : Going n k y (suc l) t) where
    abbrev a : ℕ
    a = standing n t l k

    abbrev b : ℕ
    b = fresh t (standing n t l k)

    abbrev ss : List Store
    ss = split_for n t l k

    abbrev t' : Words
    t' = apply ss t

    pub known-not-b : (w : ℕ) → Known t w → OfNode (fresh t (standing n t l k)) w → ⊥
    known-not-b w i j = not-b n k y l t g b (known-same t g.ready.settled w b i (b-some n k y l t g) j) refl

    pub known-next : (w : ℕ) → Known t w → Known (apply (split_for n t l k) t) w
    known-next w (inl i) = inl i
    known-next w (inr (m, r, o)) = inr (m, stays-reached n k y l t g m r, o)

    -- on the other levels the same nodes stand for k
    pub standing-other : (d : ℕ) → d ≤ suc l → d ≢ l → standing n (apply (split_for n t l k) t) d k ≡ standing n t d k
    standing-other d h z =
        split-standing (root_word n) (ns n k y l t g) t (own-fine n t g.ready.collection g.ready.settled) k l (full-node n k y l t g) b
        (b-free n k y l t g) d (omega (arith, g.ready.high)) z

  -- ---- a word of none of the nodes that stand for k

  pub rest-none : (l : ℕ) (t : Words) → Going n k y l t → (w : ℕ) → Known t w → ((d : ℕ) → d ≤ l → OfNode (standing n t d k) w → ⊥)
      → values_to w (rest n k y l t) ≡ []
  rest-none zero t g w i z = rw (rest-zero n k y t) (shift-none t (standing n t 0 k) k y w g.ready.above (z 0 (omega arith)))
  rest-none (suc l) t g w i z =
      rw (
        rest-suc n k y l t,
        values-append w (split_for n t l k) (rest n k y l (apply (split_for n t l k) t)),
        split-none n k y l t g w (known-not-b l t g w i) (z l (omega arith)) (z (suc l) (omega arith)),
      )
      (rest-none l (apply (split_for n t l k) t) (going-next n k y l t g) w (known-next l t g w i) later)
    where
      at-l : (standing n (apply (split_for n t l k) t) l k ≡ standing n t l k)
          ⊎ (standing n (apply (split_for n t l k) t) l k ≡ fresh t (standing n t l k))
          → OfNode (standing n (apply (split_for n t l k) t) l k) w → ⊥
      at-l (inl e) o = z l (omega arith) (rw e at o)
      at-l (inr e) o = known-not-b l t g w i (rw e at o)

      below : (d : ℕ) → d ≤ l → (d ≡ l) ⊎ (d ≢ l) → OfNode (standing n (apply (split_for n t l k) t) d k) w → ⊥
      below d h (inl e) o = at-l (standing-split n k y l t g) (rw e at o)
      below d h (inr c) o = z d (omega arith) (rw (standing-other l t g d (omega arith) c) at o)

      later : (d : ℕ) → d ≤ l → OfNode (standing n (apply (split_for n t l k) t) d k) w → ⊥
      later d h = below d h (same-or-not d l)

  -- ---- a word of the node on level l that stands for k: the shift in there

  module _ (l : ℕ) (t : Words) (g : Going n k y (suc l) t) where
    -- the parent is done with
    parent-past : (d : ℕ) → d ≤ l → standing n (apply (split_for n t l k) t) d k ≢ standing n t (suc l) k
    parent-past d h e =
        let g' = going-next n k y l t g in
        let fine = own-fine n t g.ready.collection g.ready.settled in
        let high : suc l ≤ height (view_of n t') =
        omega (
          arith,
          g.ready.high,
          split-height (root_word n) (ns n k y l t g) t fine k l (full-node n k y l t g) (b l t g) (b-free n k y l t g),
        ) in
        let f = standing-level n t' g'.ready.collection g'.ready.settled in
        omega (
          arith,
          f d k (omega arith),
          f (suc l) k high,
          ap (λ (m : ℕ). (node_view t' m).level) (e ∙ sym (standing-other l t g (suc l) (omega arith) (λ q. omega arith))),
        )
      where
        t' : Words
        t' = apply (split_for n t l k) t

    parent-none : (w : ℕ) → OfNode (standing n t (suc l) k) w → values_to w (rest n k y l (apply (split_for n t l k) t)) ≡ []
    parent-none w o =
        let g' = going-next n k y l t g in
        rest-none l (apply (split_for n t l k) t) g' w (known-next l t g w (inr (standing n t (suc l) k, p-all n k y l t g, o)))
        (λ d h q. parent-past d h (one-node _ (standing n t (suc l) k) w (standing-some d h) (p-some n k y l t g) q o))
      where
        standing-some : (d : ℕ) → d ≤ l → 1 ≤ standing n (apply (split_for n t l k) t) d k
        standing-some d h =
            let g' = going-next n k y l t g in
            reached-some n (apply (split_for n t l k) t) g'.ready.collection g'.ready.settled _
            (standing-reached n (apply (split_for n t l k) t) g'.ready.collection g'.ready.settled d k (omega (arith, g'.ready.high)))

  pub rest-here : (l : ℕ) (t : Words) → Going n k y l t → (w : ℕ) → OfNode (standing n t l k) w → values_to w (rest n k y l t)
      ≡ values_to w (shift_in_at t (standing n t l k) (key_at n k y l t) (new_at n k y l t))
  rest-here zero t g w o = ap (values_to w) (rest-zero n k y t)
  rest-here (suc l) t g w o =
      ap (values_to w) (rest-suc n k y l t) ∙ values-append w (split_for n t l k) (rest n k y l (apply (split_for n t l k) t))
      ∙ rw (parent-none l t g w o) (append-nil (values_to w (split_for n t l k))) ∙ split-p n k y l t g w o

  -- every word of the table is steady over that shift in
  pub here-steady : (l : ℕ) (t : Words) → Going n k y l t → (w : ℕ)
      → Steady (at t w) (values_to w (shift_in_at t (standing n t l k) (key_at n k y l t) (new_at n k y l t)))
  here-steady l t g w =
      let r = g.ready in
      let x = standing n t l k in
      shift-in-steady t x (settled-plain n t r.collection r.settled x (standing-reached n t r.collection r.settled l k r.high))
      (key_at n k y l t) (new_at n k y l t) r.above (new-some n k y l t g) (new-fresh n k y l t g) w

  -- ---- the node that is split

  module _ (l : ℕ) (t : Words) (g : Going n k y (suc l) t) where
    abbrev after : Going n k y l (apply (split_for n t l k) t)
    after = going-next n k y l t g

    abbrev more : List Store
    more = rest n k y l (apply (split_for n t l k) t)

    a-known : (w : ℕ) → OfNode (standing n t l k) w → Known t w
    a-known w o = inr (standing n t l k, a-all n k y l t g, o)

    a-plain : Plain t (standing n t l k)
    a-plain = settled-plain n t g.ready.collection g.ready.settled (standing n t l k) (a-reached n k y l t g)

    a-few : length (node_view t (standing n t l k)).shown ≤ 11
    a-few = reached-few n t g.ready.collection g.ready.settled (standing n t l k) (a-reached n k y l t g)

    -- then it gets a shift in, or nothing
    abbrev After : ℕ → Type 0
    After w =
        let t' = apply (split_for n t l k) t in
        ((standing n t' l k ≡ standing n t l k)
        × (values_to w more ≡ values_to w (shift_in_at t' (standing n t l k) (key_at n k y l t') (new_at n k y l t'))))
        ⊎ (values_to w more ≡ [])

    a-after : (w : ℕ) → OfNode (standing n t l k) w → After w
    a-after w o = go (standing-split n k y l t g)
      where
        t' : Words
        t' = apply (split_for n t l k) t

        other : standing n t' l k ≡ fresh t (standing n t l k) → (d : ℕ) → d ≤ l → (d ≡ l) ⊎ (d ≢ l) → OfNode (standing n t' d k) w → ⊥
        other e d h (inl q) i = known-not-b l t g w (a-known w o) (rw (ap (λ (d : ℕ). standing n t' d k) q ∙ e) at i)
        other e d h (inr z) i =
            let r = g.ready in
            let f = standing-level n t r.collection r.settled in
            let x : 1 ≤ standing n t d k =
            reached-some n t r.collection r.settled _ (standing-reached n t r.collection r.settled d k (omega (arith, r.high))) in
            let c = one-node (standing n t d k) (standing n t l k) w x (a-some n k y l t g)
            (rw (standing-other l t g d (omega arith) z) at i) o in
            z (sym (f d k (omega (arith, r.high))) ∙ ap (λ (m : ℕ). (node_view t m).level) c ∙ f l k (omega (arith, r.high)))

        go : (standing n t' l k ≡ standing n t l k) ⊎ (standing n t' l k ≡ fresh t (standing n t l k)) → After w
        go (inl e) = inl (
          e,
          rest-here l t' after w (rw e o)
              ∙ ap (λ (x : ℕ). values_to w (shift_in_at t' x (key_at n k y l t') (new_at n k y l t'))) e,
        )
        go (inr e) = inr (rest-none l t' after w (known-next l t g w (a-known w o)) (λ d h. other e d h (same-or-not d l)))

    -- its sibling word, its pointer 5 and its other words over the split
    link-values : values_to (suc (node_start (standing n t l k))) (split_for n t l k) ≡ fresh t (standing n t l k) ∷ []
    link-values =
        let a = standing n t l k in
        let w = suc (node_start a) in
        split-a n k y l t g w (omega arith, omega arith) ∙ values-here w (put w (fresh t a)) (put (pointer_word a 5) 0 ∷ []) refl
        ∙ ap (λ (vs : List ℕ). fresh t a ∷ vs) (none-put w 0 (pointer_word a 5) (λ q. omega arith))

    cut-values : values_to (pointer_word (standing n t l k) 5) (split_for n t l k) ≡ 0 ∷ []
    cut-values =
        let a = standing n t l k in
        let w = pointer_word a 5 in
        split-a n k y l t g w (omega arith, omega arith)
        ∙ values-past w (put (suc (node_start a)) (fresh t a)) (put w 0 ∷ []) (λ q. omega arith) ∙ one-put w 0 w refl

    other-values : (w : ℕ) → OfNode (standing n t l k) w → suc (node_start (standing n t l k)) ≢ w → pointer_word (standing n t l k) 5 ≢ w
        → values_to w (split_for n t l k) ≡ []
    other-values w o c z = let a =
        standing n t l k in split-a n k y l t g w o ∙ values-past w (put (suc (node_start a)) (fresh t a)) (put (pointer_word a 5) 0 ∷ []) c
        ∙ none-put w 0 (pointer_word a 5) z

    joined : (w : ℕ) → values_to w (rest n k y (suc l) t) ≡ values_to w (split_for n t l k) ++ values_to w more
    joined w = ap (values_to w) (rest-suc n k y l t) ∙ values-append w (split_for n t l k) more

    -- where what follows is steady, so is all
    module _ (later : (w : ℕ) → Known (apply (split_for n t l k) t) w
        → Steady (at (apply (split_for n t l k) t) w) (values_to w (rest n k y l (apply (split_for n t l k) t)))) where
      -- a word that the split leaves
      past-steady : (w : ℕ) → Known t w → values_to w (split_for n t l k) ≡ [] → Steady (at t w) (values_to w (rest n k y (suc l) t))
      past-steady w i e = rw (rest-suc n k y l t) (steady-after w (split_for n t l k) more t e (later w (known-next l t g w i)))

      link-steady : Steady (at t (suc (node_start (standing n t l k))))
          (values_to (suc (node_start (standing n t l k))) (rest n k y (suc l) t))
      link-steady = rw (joined w, link-values, none (a-after w (omega arith, omega arith)))
          (steady-one (at t w) (fresh t (standing n t l k)))
        where
          w : ℕ
          w = suc (node_start (standing n t l k))

          none : After w → values_to w more ≡ []
          none (inr e) = e
          none (inl (e, q)) =
              let t' = apply (split_for n t l k) t in
              let room : length (node_view t' (standing n t l k)).shown ≤ 10 = rw e at after.ready.above in
              q ∙ into-none (node_start (standing n t l k) + 8) 24 w _
              (shift-in-into t' (standing n t l k) (key_at n k y l t') (new_at n k y l t') room) (λ i j. omega arith)

      cut-steady : Steady (at t (pointer_word (standing n t l k) 5)) (values_to (pointer_word (standing n t l k) 5) (rest n k y (suc l) t))
      cut-steady = rw (joined w, cut-values)
          (steady-lost (at t w) 0 (values_to w more) (some, lost (a-after w o))
          (rw zero-there at (later w (known-next l t g w (a-known w o)))))
        where
          a : ℕ
          a = standing n t l k

          w : ℕ
          w = pointer_word a 5

          t' : Words
          t' = apply (split_for n t l k) t

          o : OfNode a w
          o = (omega arith, omega arith)

          full : length (node_view t a).shown ≡ 11
          full = g.ready.full l (omega arith)

          held : at t w ≡ (middle t a).pointer
          held = shown-word t a a-plain 5 (omega (arith, full)) a-few

          zero-there : at t' w ≡ 0
          zero-there = value-one w 0 (split_for n t l k) t
              (unfold node_start in omega (arith, (has-node-iff t a).0 a-plain.there)) cut-values

          some : at t w ≢ 0
          some = pointer-some t a a-plain a-few 5 (omega (arith, full))

          low : (j : ℕ) → j ≤ 4 → at t' (pointer_word a j) ≡ at t (pointer_word a j)
          low j h = value-same (pointer_word a j) (split_for n t l k) t
              (other-values (pointer_word a j) (omega arith, omega arith) (λ q. omega arith) (λ q. omega arith))

          lost : After w → Each (λ (v : ℕ). at t w ≢ v) (values_to w more)
          lost (inr e) = rw e tt
          lost (inl (e, q)) =
              let r = after.ready in
              let there = rw e at (standing-reached n t' r.collection r.settled l k r.high) in
              rw q (cut-lost t t' a 4 a-plain (settled-plain n t' r.collection r.settled a there) a-few
              (reached-few n t' r.collection r.settled a there) (omega (arith, full)) zero-there low
              (key_at n k y l t') (new_at n k y l t') (λ c. middle-new n k y l t g (sym held ∙ c)))

      a-steady : (w : ℕ) → OfNode (standing n t l k) w → Steady (at t w) (values_to w (rest n k y (suc l) t))
      a-steady w o = go (same-or-not (suc (node_start (standing n t l k))) w) (same-or-not (pointer_word (standing n t l k) 5) w)
        where
          go : (suc (node_start (standing n t l k)) ≡ w) ⊎ (suc (node_start (standing n t l k)) ≢ w)
              → (pointer_word (standing n t l k) 5 ≡ w) ⊎ (pointer_word (standing n t l k) 5 ≢ w)
              → Steady (at t w) (values_to w (rest n k y (suc l) t))
          go (inl e) c = subst (λ (w : ℕ). Steady (at t w) (values_to w (rest n k y (suc l) t))) e link-steady
          go (inr z) (inl e) = subst (λ (w : ℕ). Steady (at t w) (values_to w (rest n k y (suc l) t))) e cut-steady
          go (inr z) (inr c) = past-steady w (a-known w o) (other-values w o z c)

      pub split-steady : (w : ℕ) → Known t w → Steady (at t w) (values_to w (rest n k y (suc l) t))
      split-steady w i = go (node-or-not (standing n t (suc l) k) w) (node-or-not (standing n t l k) w)
        where
          go : OfNode (standing n t (suc l) k) w ⊎ (OfNode (standing n t (suc l) k) w → ⊥) → OfNode (standing n t l k) w
              ⊎ (OfNode (standing n t l k) w → ⊥) → Steady (at t w) (values_to w (rest n k y (suc l) t))
          go (inl o) c = rw (rest-here (suc l) t g w o) (here-steady (suc l) t g w)
          go (inr z) (inl o) = a-steady w o
          go (inr z) (inr c) = past-steady w i (split-none n k y l t g w (known-not-b l t g w i) c z)

  -- The splits and the shift in at the leaf: every word that is known before them is steady.
  pub rest-steady : (l : ℕ) (t : Words) → Going n k y l t → (w : ℕ) → Known t w → Steady (at t w) (values_to w (rest n k y l t))
  rest-steady zero t g w i = rw (rest-zero n k y t) (here-steady 0 t g w)
  rest-steady (suc l) t g w i = split-steady l t g (rest-steady l (apply (split_for n t l k) t) (going-next n k y l t g)) w i
