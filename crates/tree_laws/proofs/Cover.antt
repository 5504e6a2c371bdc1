-- The node of a row that covers a key: one step of a search, from the covering node of a row to that of the row below.
use Rattle.std.proofs.Common.{◌≡◌, ℕ, suc, ◌<◌, ◌≤◌, Bool, true, false, eqb, leb, ◌≢◌, List, [], ◌∷◌, ◌++◌, sym, refl, ap, ◌∙◌, ⊎_elim}
use Rattle.std.proofs.Common.{arith, ltb-false, ltb-true, le-ltb, lt-ltb, ne_eqb, eqb-true, leb-false, leb-true}
use mathlib.Core.Bool.{false≢true}
use mathlib.Core.List.Memᴰ
use mathlib.Core.List.{Memᴰ}
use borrow.Author.Tests.{eqb-false, lt-leb}
use Rattle.model.specs.Slots.{Slot, View}
use Rattle.model.specs.Search.{below, within, moved, route, down}
use Rattle.model.specs.Reached.{filter, flat, head_or, pointers, kept, named, first_child, next_child, fill_row, children}
use Rattle.model.specs.SoundTest.{rising, linked}
use Rattle.list_laws.proofs.Tools.{decode, or-right, or-false-iff, Each, Each-split, Each-map}
use Rattle.list_laws.proofs.Members.{mem-each}
use Rattle.tree_laws.proofs.Rows.{Good, At, not-zero, sib-facts, Named, Inner, link-yes, link-no, link-head, link-tail, linked-cons}
use Rattle.tree_laws.proofs.Rows.{head-row, chain-tail, first-child, left-range}
use Rattle.tree_laws.proofs.Rising.{rising-from}

-- the node of a row that covers k: the first whose sibling's fence is above k
unfoldable pub cover : View → ℕ → List ℕ → ℕ
cover v k [] = 0
cover v k (n ∷ ns) = elim (within v n k) [ true ↦ n | false ↦ cover v k ns ]

module _ (v : View) (k : ℕ) where
  pub cover-in : (n : ℕ) (ns : List ℕ) → within v n k ≡ true → cover v k (n ∷ ns) ≡ n
  unfolding cover
  cover-in n ns h = rw (h, cover)

  pub cover-out : (n : ℕ) (ns : List ℕ) → within v n k ≡ false → cover v k (n ∷ ns) ≡ cover v k ns
  unfolding cover
  cover-out n ns h = rw (h, cover)

  -- a k that is at least the fence of node s, which is not 0, is not below it
  pub below-low : (s : ℕ) → s ≢ 0 → (v.node s).fence ≤ k → below v s k ≡ false
  unfolding below
  below-low s z h = rw (ne_eqb s 0 z, le-ltb k (v.node s).fence h)

  -- a k smaller than the fence of node s is below it
  pub below-high : (s : ℕ) → k < (v.node s).fence → below v s k ≡ true
  unfolding below
  below-high s h = or-right (eqb s 0) _ (lt-ltb k (v.node s).fence h)

  pub below-false : (s : ℕ) → below v s k ≡ false → (s ≢ 0) × ((v.node s).fence ≤ k)
  unfolding below
  below-false s h = let u = (or-false-iff _ _).0 h in (eqb-false s 0 u.0, ltb-false k (v.node s).fence u.1)

  -- a k that is below node s, which is not 0, is smaller than its fence
  pub below-true : (s : ℕ) → s ≢ 0 → below v s k ≡ true → k < (v.node s).fence
  unfolding below
  below-true s z h = ltb-true k (v.node s).fence (rw (ne_eqb s 0 z) at h)

  pub below-mono : (s j : ℕ) → below v s k ≡ true → j ≤ k → below v s j ≡ true
  unfolding below
  below-mono s j h l = go (eqb s 0) refl
    where
      go : (b : Bool) → eqb s 0 ≡ b → below v s j ≡ true
      go true c = rw c
      go false c = or-right (eqb s 0) _ (lt-ltb j (v.node s).fence (omega (arith, below-true s (eqb-false s 0 c) h)))

  -- a key that is not below s is above every key that is
  pub below-past : (s j : ℕ) → below v s k ≡ true → below v s j ≡ false → k < j
  below-past s j h l = go (leb j k) refl
    where
      go : (b : Bool) → leb j k ≡ b → k < j
      go true c = absurd (false≢true (sym l ∙ below-mono s j h (leb-true j k c)))
      go false c = leb-false j k c

  -- a key up to the fence of a good node is below its sibling's
  pub within-up-to : (n : ℕ) → Good v n → k ≤ (v.node n).fence → within v n k ≡ true
  within-up-to n g h = go (eqb (v.node n).sibling 0) refl
    where
      go : (b : Bool) → eqb (v.node n).sibling 0 ≡ b → within v n k ≡ true
      go true c = unfold below in rw c
      go false c = below-high (v.node n).sibling (omega (arith, (sib-facts v n g (eqb-false _ _ c)).fence))

  -- a search for a k below the fence of n's sibling stays on n
  pub stays : (n : ℕ) → within v n k ≡ true → moved v n k ≡ n
  unfolding moved
  stays n h = rw (h, moved)

  -- a search for a k that is not below that fence moves from n to its sibling
  pub moves : (n : ℕ) → within v n k ≡ false → moved v n k ≡ (v.node n).sibling
  unfolding moved
  moves n h = rw (h, moved)

  -- ---- the covering node of a row

  -- what holds of each node of the row holds of it
  pub cover-has : (P : ℕ → Type 0) (ns : List ℕ) → Each P ns → linked v ns 0 ≡ true → head_or 0 ns ≢ 0 → P (cover v k ns)
      × (within v (cover v k ns) k ≡ true)
  cover-has P [] p c z = absurd (z refl)
  cover-has P (n ∷ ns) p c z = go (within v n k) refl ((linked-cons v n ns 0).0 c) (cover-has P ns p.1)
    where
      go : (b : Bool) → within v n k ≡ b → ((v.node n).sibling ≡ head_or 0 ns) × (linked v ns 0 ≡ true)
          → (linked v ns 0 ≡ true → head_or 0 ns ≢ 0 → P (cover v k ns) × (within v (cover v k ns) k ≡ true))
          → P (cover v k (n ∷ ns)) × (within v (cover v k (n ∷ ns)) k ≡ true)
      go true i u ih = rw (cover-in n ns i) (p.0, i)
      go false i u ih = rw (cover-out n ns i) (ih u.1 (λ y. (below-false (v.node n).sibling i).0 (u.0 ∙ y)))

  pub cover-mem : (ns : List ℕ) → linked v ns 0 ≡ true → head_or 0 ns ≢ 0 → Memᴰ (cover v k ns) ns
  cover-mem ns c z = (cover-has (λ (n : ℕ). Memᴰ n ns) ns (mem-each (λ (n : ℕ). Memᴰ n ns) ns (λ n m. m)) c z).0

  -- its fence is at most k where that of the first is
  pub cover-fence : (ns : List ℕ) → linked v ns 0 ≡ true → head_or 0 ns ≢ 0 → (v.node (head_or 0 ns)).fence ≤ k
      → (v.node (cover v k ns)).fence ≤ k
  cover-fence [] l z h = absurd (z refl)
  cover-fence (n ∷ ns) l z h = go (within v n k) refl ((linked-cons v n ns 0).0 l) (cover-fence ns)
    where
      go : (b : Bool) → within v n k ≡ b → ((v.node n).sibling ≡ head_or 0 ns) × (linked v ns 0 ≡ true)
          → (linked v ns 0 ≡ true → head_or 0 ns ≢ 0 → (v.node (head_or 0 ns)).fence ≤ k → (v.node (cover v k ns)).fence ≤ k)
          → (v.node (cover v k (n ∷ ns))).fence ≤ k
      go true c u ih = rw (cover-in n ns c) h
      go false c u ih = let w = below-false (v.node n).sibling c in rw (cover-out n ns c) (ih u.1 (λ y. w.0 (u.0 ∙ y)) (rw u.0 at w.1))

  -- a linked row whose end is not above k does not cover k
  cover-none : (d : ℕ) (cs r : List ℕ) (e : ℕ) → Each (Good v) cs → Each (At v d) cs → linked v cs e ≡ true → e ≢ 0 → (v.node e).fence ≤ k
      → (cover v k (cs ++ r) ≡ cover v k r) × (head_or e cs ≢ 0) × ((v.node (head_or e cs)).fence ≤ k)
  cover-none d [] r e g a c z h = (refl, z, h)
  cover-none d (n ∷ cs) r e g a c z h =
      let u = (linked-cons v n cs e).0 c in
      let ih = cover-none d cs r e g.1 a.1 u.1 z h in
      let y : (v.node (v.node n).sibling).fence ≡ (v.node (head_or e cs)).fence = ap (λ x. (v.node x).fence) u.0 in
      let b = sib-facts v n g.0 (λ y. ih.1 (sym u.0 ∙ y)) in (
        cover-out n (cs ++ r) (ap (λ x. below v x k) u.0 ∙ below-low (head_or e cs) ih.1 ih.2) ∙ ih.0,
        not-zero v n a.0.range,
        omega (arith, b.fence, ih.2),
      )

  -- a linked row whose end is above k covers it
  cover-some : (c : ℕ) (cs r : List ℕ) (e : ℕ) → linked v (c ∷ cs) e ≡ true → below v e k ≡ true
      → cover v k (c ∷ cs ++ r) ≡ cover v k (c ∷ cs)
  cover-some c [] r e l h = let i = ap (λ x. below v x k) ((linked-cons v c [] e).0 l).0 ∙ h in cover-in c r i ∙ sym (cover-in c [] i)
  cover-some c (n ∷ cs) r e l h = go (within v c k) refl (cover-some n cs r e ((linked-cons v c (n ∷ cs) e).0 l).1 h)
    where
      go : (b : Bool) → within v c k ≡ b → cover v k (n ∷ cs ++ r) ≡ cover v k (n ∷ cs) → cover v k (c ∷ n ∷ cs ++ r)
          ≡ cover v k (c ∷ n ∷ cs)
      go true i ih = cover-in c _ i ∙ sym (cover-in c _ i)
      go false i ih = cover-out c _ i ∙ ih ∙ sym (cover-out c _ i)

  cover-member : (c : ℕ) (cs : List ℕ) (e : ℕ) → linked v (c ∷ cs) e ≡ true → below v e k ≡ true → Memᴰ (cover v k (c ∷ cs)) (c ∷ cs)
  cover-member c [] e l h = let i = ap (λ x. below v x k) ((linked-cons v c [] e).0 l).0 ∙ h in Memᴰ.head (cover-in c [] i)
  cover-member c (n ∷ cs) e l h = go (within v c k) refl (cover-member n cs e ((linked-cons v c (n ∷ cs) e).0 l).1 h)
    where
      go : (b : Bool) → within v c k ≡ b → Memᴰ (cover v k (n ∷ cs)) (n ∷ cs) → Memᴰ (cover v k (c ∷ n ∷ cs)) (c ∷ n ∷ cs)
      go true i ih = Memᴰ.head (cover-in c _ i)
      go false i ih = Memᴰ.tail (Memᴰ.cast (cover-out c _ i) ih)

  -- ---- going down in one node

  -- the row's part from n on, where the node named after n is above k
  cover-at : (n : ℕ) (ns : List ℕ) (e : ℕ) → linked v (fill_row v (n ∷ ns) e) e ≡ true → below v (head_or e ns) k ≡ true → moved v n k
      ≡ cover v k (fill_row v (n ∷ ns) e)
  cover-at n ns e c h = go (eqb (v.node n).sibling (head_or e ns)) (within v n k) refl refl
    where
      go : (b i : Bool) → eqb (v.node n).sibling (head_or e ns) ≡ b → within v n k ≡ i → moved v n k ≡ cover v k (fill_row v (n ∷ ns) e)
      go true true q i = rw (link-yes v n ns e q) (stays n i ∙ sym (cover-in n _ i))
      go true false q i = absurd (false≢true (sym i ∙ ap (λ x. below v x k) (eqb-true _ _ q) ∙ h))
      go false true q i = rw (link-no v n ns e q) (stays n i ∙ sym (cover-in n _ i))
      go false false q i =
          let p = link-no v n ns e q in
          let w = ((linked-cons v (v.node n).sibling (fill_row v ns e) e).0 ((linked-cons v n _ e).0 (rw p at c)).1).0 in
          rw p (moves n i ∙ sym (cover-out n _ i ∙ cover-in (v.node n).sibling _ (ap (λ x. below v x k) (w ∙ head-row v ns e e) ∙ h)))

  -- the row's part from n on, where the node s named after n is not above k
  cover-skip : (d n s : ℕ) (ns : List ℕ) (e : ℕ) → Each (Good v) (fill_row v (n ∷ s ∷ ns) e) → Each (At v d) (fill_row v (n ∷ s ∷ ns) e)
      → linked v (fill_row v (n ∷ s ∷ ns) e) e ≡ true
      → s ≢ 0 → (v.node s).fence ≤ k → cover v k (fill_row v (n ∷ s ∷ ns) e) ≡ cover v k (fill_row v (s ∷ ns) e)
  cover-skip d n s ns e g a c z h = go (eqb (v.node n).sibling s) refl
    where
      go : (b : Bool) → eqb (v.node n).sibling s ≡ b → cover v k (fill_row v (n ∷ s ∷ ns) e) ≡ cover v k (fill_row v (s ∷ ns) e)
      go true q = rw (link-yes v n (s ∷ ns) e q) (cover-out n _ (ap (λ x. below v x k) (eqb-true _ _ q) ∙ below-low s z h))
      go false q =
          let p = link-no v n (s ∷ ns) e q in
          let w : (v.node (v.node n).sibling).sibling ≡ s =
          ((linked-cons v (v.node n).sibling (fill_row v (s ∷ ns) e) e).0 ((linked-cons v n _ e).0 (rw p at c)).1).0
          ∙ head-row v (s ∷ ns) e e in
          let b = sib-facts v (v.node n).sibling (rw p at g).1.0 (λ y. z (sym w ∙ y)) in
          let y : (v.node (v.node (v.node n).sibling).sibling).fence ≡ (v.node s).fence = ap (λ x. (v.node x).fence) w in
          rw p (cover-out n _ (below-low (v.node n).sibling (not-zero v _ (rw p at a).1.0.range) (omega (arith, b.fence)))
          ∙ cover-out (v.node n).sibling _ (ap (λ x. below v x k) w ∙ below-low s z h))

  -- if every slot's key is above k, the way down is by left
  pub route-none : (p : ℕ) (ss : List Slot) → Each (λ (s : Slot). k < s.key) ss → route k p ss ≡ p
  unfolding route
  route-none p [] h = refl
  route-none p (s ∷ ss) h = rw (lt-leb s.key k h.0, route) (route-none p ss h.1)

  route-high : (p lo : ℕ) (ss : List Slot) → rising lo ss ≡ true → k < lo → route k p ss ≡ p
  route-high p lo ss r h =
      route-none p ss (Each-map (λ (s : Slot). lo ≤ s.key) (λ (s : Slot). k < s.key) ss (λ s l. omega arith) (rising-from lo ss r))

  -- going down by the named nodes and then moving at most once leads to the covering node of the filled row
  route-cover : (d p lo : ℕ) (ss : List Slot) (e : ℕ) → Each (Good v) (fill_row v (p ∷ pointers ss) e)
      → Each (At v d) (fill_row v (p ∷ pointers ss) e) → linked v (fill_row v (p ∷ pointers ss) e) e ≡ true
      → Each (Named v d) ss → rising lo ss ≡ true → below v e k ≡ true
      → moved v (route k p ss) k ≡ cover v k (fill_row v (p ∷ pointers ss) e)
  unfolding route rising
  route-cover d p lo [] e g a c n r h = cover-at p [] e c h
  route-cover d p lo (s ∷ ss) e g a c n r h = go (leb s.key k) refl
      (route-cover d s.pointer _ ss e (link-tail v _ p _ e g) (link-tail v _ p _ e a) (chain-tail v p _ e e c) n.1 (simp decode at r).1 h)
    where
      go : (b : Bool) → leb s.key k ≡ b → moved v (route k s.pointer ss) k ≡ cover v k (fill_row v (s.pointer ∷ pointers ss) e)
          → moved v (route k p (s ∷ ss)) k ≡ cover v k (fill_row v (p ∷ s.pointer ∷ pointers ss) e)
      go true q ih =
          let z = not-zero v s.pointer
          (link-head v (At v d) s.pointer (pointers ss) e (link-tail v (At v d) p (s.pointer ∷ pointers ss) e a)).range in
          rw (q, route) (ih ∙ sym (cover-skip d p s.pointer (pointers ss) e g a c z (omega (arith, leb-true s.key k q, n.0.fence))))
      go false q ih =
          let u = simp decode at r in
          let y = leb-false s.key k q in
          rw (q, route) (ap (λ x. moved v x k) (route-high p (suc s.key) ss u.1 (omega arith))
          ∙ cover-at p (s.pointer ∷ pointers ss) e c (below-high s.pointer (omega (arith, n.0.fence))))

  -- the same where the row has no gap: no move is needed
  route-whole : (d p lo : ℕ) (ss : List Slot) (e : ℕ) → linked v (p ∷ pointers ss) e ≡ true → Each (At v d) (pointers ss)
      → Each (Named v d) ss → rising lo ss ≡ true → below v e k ≡ true
      → route k p ss ≡ cover v k (p ∷ pointers ss)
  unfolding route rising
  route-whole d p lo [] e c a n r h = sym (cover-in p [] (ap (λ x. below v x k) ((linked-cons v p [] e).0 c).0 ∙ h))
  route-whole d p lo (s ∷ ss) e c a n r h =
      go (leb s.key k) refl ((linked-cons v p _ e).0 c) (λ c. route-whole d s.pointer _ ss e c a.1 n.1 (simp decode at r).1 h)
    where
      go : (b : Bool) → leb s.key k ≡ b → ((v.node p).sibling ≡ s.pointer) × (linked v (s.pointer ∷ pointers ss) e ≡ true)
          → (linked v (s.pointer ∷ pointers ss) e ≡ true → route k s.pointer ss ≡ cover v k (s.pointer ∷ pointers ss)) → route k p (s ∷ ss)
          ≡ cover v k (p ∷ s.pointer ∷ pointers ss)
      go true q u ih =
          let z = not-zero v s.pointer a.0.range in
          rw (q, route) (ih u.1
          ∙ sym (cover-out p _ (ap (λ x. below v x k) u.0 ∙ below-low s.pointer z (omega (arith, leb-true s.key k q, n.0.fence)))))
      go false q u ih =
          let w = simp decode at r in
          let y = leb-false s.key k q in
          rw (q, route) (route-high p (suc s.key) ss w.1 (omega arith)
          ∙ sym (cover-in p _ (ap (λ x. below v x k) u.0 ∙ below-high s.pointer (omega (arith, n.0.fence)))))

  route-filter : (p : ℕ) (q : Slot → Bool) (ss : List Slot) → ((s : Slot) → s.key ≤ k → q s ≡ true) → route k p (filter q ss) ≡ route k p ss
  unfolding route filter
  route-filter p q [] h = refl
  route-filter p q (s ∷ ss) h = go (q s) (leb s.key k) refl refl (λ p. route-filter p q ss h)
    where
      go : (a b : Bool) → q s ≡ a → leb s.key k ≡ b → ((p : ℕ) → route k p (filter q ss) ≡ route k p ss)
          → route k p (filter q (s ∷ ss)) ≡ route k p (s ∷ ss)
      go true true e c ih = rw (e, c, route, filter) (ih s.pointer)
      go true false e c ih = rw (e, c, route, filter) (ih p)
      go false true e c ih = absurd (false≢true (sym e ∙ h s (leb-true s.key k c)))
      go false false e c ih = rw (e, c, route, filter) (ih p)

  -- in a node that covers k the ignored slots lead nowhere
  pub down-kept : (n : ℕ) → within v n k ≡ true → down v n k ≡ route k (v.node n).left (kept v n)
  unfolding kept
  down-kept n h = sym (route-filter (v.node n).left (λ (s : Slot). within v n s.key) (v.node n).shown
      (λ s l. below-mono (v.node n).sibling s.key h l))

  route-named : (p : ℕ) (ss : List Slot) → Memᴰ (route k p ss) (p ∷ pointers ss)
  unfolding route
  route-named p [] = Memᴰ.head refl
  route-named p (s ∷ ss) = go (leb s.key k) refl (λ p. route-named p ss)
    where
      go : (b : Bool) → leb s.key k ≡ b → ((p : ℕ) → Memᴰ (route k p ss) (p ∷ pointers ss))
          → Memᴰ (route k p (s ∷ ss)) (p ∷ s.pointer ∷ pointers ss)
      go true c ih = rw (c, route) (Memᴰ.tail (ih s.pointer))
      go false c ih = rw (c, route) (⊎_elim (λ e. Memᴰ.head e) (λ t. Memᴰ.tail (Memᴰ.tail t)) (Memᴰ.cases_cons (ih p)))

  -- the way down from n for a k below its sibling's fence leads to a child that n names
  pub down-named : (n : ℕ) → within v n k ≡ true → Memᴰ (down v n k) (named v n)
  down-named n h = rw (down-kept n h) (route-named (v.node n).left (kept v n))

  -- the search's step down from the covering node m
  pub step-down : (d m : ℕ) → Inner v d m → Each (Good v) (children v m) → Each (At v d) (children v m) → within v m k ≡ true
      → below v (next_child v m) k ≡ true
      → moved v (down v m k) k ≡ cover v k (children v m)
  step-down d m i g a h e =
      ap (λ x. moved v x k) (down-kept m h)
      ∙ rw i.kids (route-cover d (v.node m).left (suc (v.node m).fence) (kept v m) (next_child v m) (rw i.kids at g) (rw i.kids at a)
      (rw i.kids at i.chain) i.names i.rise e)

  -- the same where m names all its children
  pub step-whole : (d m : ℕ) → Inner v d m → Each (At v d) (children v m) → children v m ≡ named v m → within v m k ≡ true
      → below v (next_child v m) k ≡ true
      → down v m k ≡ cover v k (children v m)
  step-whole d m i a w h e =
      down-kept m h ∙ rw w
      (route-whole d (v.node m).left (suc (v.node m).fence) (kept v m) (next_child v m) (rw w at i.chain)
      (rw w at a).1 i.names i.rise e)

  -- ---- the row below

  -- the first child of the node after n, none where n is the last
  next-low : (d n : ℕ) (ns : List ℕ) → (v.node n).sibling ≡ head_or 0 ns → Each (Inner v d) ns → within v n k ≡ false → (next_child v n ≢ 0)
      × ((v.node (next_child v n)).fence ≤ k)
  next-low d n [] e i h = absurd ((below-false (v.node n).sibling h).0 e)
  next-low d n (m ∷ ns) e i h =
      let u = below-false (v.node n).sibling h in
      let w = first-child v (v.node n).sibling u.0 ∙ ap (λ x. (v.node x).left) e in
      rw w (not-zero v (v.node m).left (left-range v d m i.0), omega (arith, i.0.left_fence, rw e at u.1))

  next-high : (d n : ℕ) (ns : List ℕ) → (v.node n).sibling ≡ head_or 0 ns → Each (Inner v d) ns → Each (At v (suc d)) ns → within v n k
      ≡ true → below v (next_child v n) k ≡ true
  next-high d n [] e i a h = rw e (unfold first_child below in refl)
  next-high d n (m ∷ ns) e i a h =
      let z = not-zero v m a.0.range in
      rw (e, first-child v m z) (below-high (v.node m).left (omega (arith, i.0.left_fence, below-true m z (rw e at h))))

  -- a node that covers k has no child after it that is not above k
  pub nexts : (d : ℕ) (ns : List ℕ) → Each (Inner v d) ns → Each (At v (suc d)) ns → linked v ns 0 ≡ true
      → Each (λ (n : ℕ). within v n k ≡ true → below v (next_child v n) k ≡ true) ns
  nexts d [] i a c = tt
  nexts d (n ∷ ns) i a c = let u = (linked-cons v n ns 0).0 c in (next-high d n ns u.0 i.1 a.1, nexts d ns i.1 a.1 u.1)

  cover-fill : (m : ℕ) (ms r : List ℕ) (e z : ℕ) → linked v (fill_row v (m ∷ ms) z) e ≡ true → below v e k ≡ true
      → cover v k (fill_row v (m ∷ ms) z ++ r) ≡ cover v k (fill_row v (m ∷ ms) z)
  cover-fill m ms r e z l h = go (eqb (v.node m).sibling (head_or z ms)) refl
    where
      go : (b : Bool) → eqb (v.node m).sibling (head_or z ms) ≡ b → cover v k (fill_row v (m ∷ ms) z ++ r)
          ≡ cover v k (fill_row v (m ∷ ms) z)
      go true c = let q = link-yes v m ms z c in rw q (cover-some m (fill_row v ms z) r e (rw q at l) h)
      go false c = let q = link-no v m ms z c in rw q (cover-some m ((v.node m).sibling ∷ fill_row v ms z) r e (rw q at l) h)

  pub cover-child : (d m : ℕ) → Inner v d m → below v (next_child v m) k ≡ true → Memᴰ (cover v k (children v m)) (children v m)
  cover-child d m i h = rw i.kids (go (eqb (v.node (v.node m).left).sibling (head_or (next_child v m) (pointers (kept v m)))) refl)
    where
      go : (b : Bool) → eqb (v.node (v.node m).left).sibling (head_or (next_child v m) (pointers (kept v m))) ≡ b
          → Memᴰ (cover v k (fill_row v (named v m) (next_child v m))) (fill_row v (named v m) (next_child v m))
      go true c = let q = link-yes v (v.node m).left (pointers (kept v m)) (next_child v m) c in rw q
          (cover-member (v.node m).left _ (next_child v m) (rw q at (rw i.kids at i.chain)) h)
      go false c = let q =
          link-no v (v.node m).left (pointers (kept v m)) (next_child v m) c in rw q
          (cover-member (v.node m).left _ (next_child v m) (rw q at (rw i.kids at i.chain)) h)

  cover-children : (d n : ℕ) (r : List ℕ) (e : ℕ) → Inner v d n → linked v (children v n) e ≡ true → below v e k ≡ true
      → cover v k (children v n ++ r) ≡ cover v k (children v n)
  cover-children d n r e i l h = rw i.kids (cover-fill (v.node n).left (pointers (kept v n)) r e (next_child v n) (rw i.kids at l) h)

  -- the covering node one level down is a child of the covering node
  pub cover-flat : (d : ℕ) (ns : List ℕ) → Each (Inner v d) ns → Each (At v (suc d)) ns → linked v ns 0 ≡ true
      → Each (Good v) (flat (children v) ns) → Each (At v d) (flat (children v) ns)
      → head_or 0 ns ≢ 0 → cover v k (flat (children v) ns) ≡ cover v k (children v (cover v k ns))
  unfolding flat
  cover-flat d [] i a c g b z = absurd (z refl)
  cover-flat d (n ∷ ns) i a c g b z = go (within v n k) refl (cover-flat d ns i.1 a.1 u.1 gs.1 bs.1)
    where
      u : ((v.node n).sibling ≡ head_or 0 ns) × (linked v ns 0 ≡ true)
      u = (linked-cons v n ns 0).0 c

      gs : Each (Good v) (children v n) × Each (Good v) (flat (children v) ns)
      gs = Each-split (Good v) (children v n) (flat (children v) ns) g

      bs : Each (At v d) (children v n) × Each (At v d) (flat (children v) ns)
      bs = Each-split (At v d) (children v n) (flat (children v) ns) b

      go : (b : Bool) → within v n k ≡ b → (head_or 0 ns ≢ 0 → cover v k (flat (children v) ns) ≡ cover v k (children v (cover v k ns)))
          → cover v k (children v n ++ flat (children v) ns) ≡ cover v k (children v (cover v k (n ∷ ns)))
      go true h ih = rw (cover-in n ns h) (cover-children d n _ (next_child v n) i.0 i.0.chain (next-high d n ns u.0 i.1 a.1 h))
      go false h ih =
          let w = next-low d n ns u.0 i.1 h in
          rw (cover-out n ns h)
          ((cover-none d (children v n) (flat (children v) ns) (next_child v n) gs.0 bs.0 i.0.chain w.0 w.1).0
          ∙ ih (λ y. (below-false (v.node n).sibling h).0 (u.0 ∙ y)))
