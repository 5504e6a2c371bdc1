-- Two orderly trees over the same nodes: they share a node only if they share their last leaf.
use Rattle.std.proofs.Common.{◌≡◌, ℕ, zero, suc, ◌≤◌, true, ◌≢◌, List, [], ◌∷◌, ◌++◌, sym, refl, ap, ◌∙◌, arith}
use mathlib.Core.List.{Memᴰ}
use Rattle.model.specs.Slots.{View, height}
use Rattle.model.specs.Reached.{head_or, flat, children, reached, leaves, fill_row, kept, first_child, named, next_child}
use Rattle.model.specs.Search.{below}
use Rattle.model.specs.SoundTest.{linked}
use Rattle.list_laws.proofs.Tools.{Each, Each-map}
use Rattle.tree_laws.proofs.Rows.{Good, At, Row, not-zero, linked-cons, children-inner, inner, left-range, head-row}
use Rattle.change_laws.proofs.Updates.{with_root}
use Rattle.tree_laws.proofs.Levels.{Orderly, Level, level-at, row_at, row-leaves, row-below, reached-row}
use Rattle.walk_laws.specs.Chain.{last_or}

last-append : (e : ℕ) (xs ys : List ℕ) → last_or e (xs ++ ys) ≡ last_or (last_or e xs) ys
unfolding last_or
last-append e [] ys = refl
last-append e (x ∷ xs) ys = last-append x xs ys

abbrev Some : ℕ → Type 0
Some n = n ≢ 0

module _ (v : View) where
  -- what follows n in a linked row is fixed by n
  after-same : (n : ℕ) (ys zs : List ℕ) → linked v (n ∷ ys) 0 ≡ true → linked v (n ∷ zs) 0 ≡ true → Each Some ys → Each Some zs → ys ≡ zs
  after-same n [] [] a b p q = refl
  after-same n [] (z ∷ zs) a b p q = absurd (q.0 (sym ((linked-cons v n (z ∷ zs) 0).0 b).0 ∙ ((linked-cons v n [] 0).0 a).0))
  after-same n (y ∷ ys) [] a b p q = absurd (p.0 (sym ((linked-cons v n (y ∷ ys) 0).0 a).0 ∙ ((linked-cons v n [] 0).0 b).0))
  after-same n (y ∷ ys) (z ∷ zs) a b p q =
      let f = (linked-cons v n (y ∷ ys) 0).0 a in
      let g = (linked-cons v n (z ∷ zs) 0).0 b in
      let e : y ≡ z = sym f.0 ∙ g.0 in
      let t : ys ≡ zs = after-same z ys zs (rw e at f.1) g.1 p.1 q.1 in
      rw (e, t)

  -- the end of a row that has n
  record End (n l : ℕ) : Type 0 where
    rest : List ℕ
    chain : linked v (n ∷ rest) 0 ≡ true
    some : Each Some rest
    last : l ≡ last_or n rest

  end-of : (e n : ℕ) (ns : List ℕ) → linked v ns 0 ≡ true → Each Some ns → Memᴰ n ns → End n (last_or e ns)
  unfolding last_or
  end-of e n [] l s h = elim h [ ]
  end-of e n (m ∷ ms) l s (Memᴰ.head q) = record { rest = ms; chain = rw q l; some = s.1; last = rw q }
  end-of e n (m ∷ ms) l s (Memᴰ.tail h) = end-of m n ms ((linked-cons v m ms 0).0 l).1 s.1 h

  same-last : (n : ℕ) (ns ms : List ℕ) → linked v ns 0 ≡ true → linked v ms 0 ≡ true → Each Some ns → Each Some ms → Memᴰ n ns → Memᴰ n ms
      → last_or 0 ns ≡ last_or 0 ms
  same-last n ns ms a b p q h k =
      let x = end-of 0 n ns a p h in
      let y = end-of 0 n ms b q k in
      x.last ∙ ap (last_or n) (after-same n x.rest y.rest x.chain y.chain x.some y.some) ∙ sym y.last

  -- the last child of the last node
  last-any : (e f : ℕ) (ns : List ℕ) → head_or 0 ns ≢ 0 → last_or e ns ≡ last_or f ns
  unfolding last_or
  last-any e f [] z = absurd (z refl)
  last-any e f (n ∷ ns) z = refl

  pub each-last : (P : ℕ → Type 0) (m : ℕ) (ns : List ℕ) → Each P (m ∷ ns) → P (last_or m ns)
  unfolding last_or
  each-last P m [] h = h.0
  each-last P m (n ∷ ns) h = each-last P n ns h.1

  kids-some : (d n : ℕ) → Good v n → At v (suc d) n → head_or 0 (children v n) ≢ 0
  kids-some d n g a q =
      let i = inner v d n g a.level in
      let e : head_or 0 (children v n) ≡ (v.node n).left =
      ap (head_or 0) (children-inner v d n a.level) ∙ head-row v (named v n) (next_child v n) 0 in
      not-zero v (v.node n).left (left-range v d n i) (sym e ∙ q)

  last-flat : (d e n : ℕ) (ns : List ℕ) → Each (Good v) (n ∷ ns) → Each (At v (suc d)) (n ∷ ns) → last_or e (flat (children v) (n ∷ ns))
      ≡ last_or e (children v (last_or n ns))
  unfolding flat last_or
  last-flat d e n [] g a = last-append e (children v n) []
  last-flat d e n (m ∷ ns) g a =
      last-append e (children v n) (flat (children v) (m ∷ ns)) ∙ last-flat d (last_or e (children v n)) m ns g.1 a.1
      ∙ last-any (last_or e (children v n)) e (children v (last_or m ns))
      (kids-some d (last_or m ns) (each-last (Good v) m ns g.1) (each-last (At v (suc d)) m ns a.1))

  pub down-last : (d : ℕ) (ns : List ℕ) → Level v (suc d) ns → last_or 0 (flat (children v) ns) ≡ last_or 0 (children v (last_or 0 ns))
  unfolding last_or
  down-last d [] l = absurd (l.some refl)
  down-last d (n ∷ ns) l = last-flat d 0 n ns l.row.good l.row.at

-- another root changes no node
children-root : (v : View) (r n : ℕ) → children (with_root v r) n ≡ children v n
unfolding children kept fill_row below first_child
children-root v r n = refl

linked-root : (v : View) (r : ℕ) (ns : List ℕ) → linked (with_root v r) ns 0 ≡ true → linked v ns 0 ≡ true
unfolding linked
linked-root v r ns h = h

row-some : (v : View) (d : ℕ) (ns : List ℕ) → Row v d ns → Each Some ns
row-some v d ns r = Each-map (At v d) Some ns (λ n a. not-zero v n a.range) r.at

module _ (v : View) (r : ℕ) (o : Orderly v) (q : Orderly (with_root v r)) where
  abbrev w : View
  w = with_root v r

  leaf-last : (d : ℕ) → d ≤ height v → d ≤ height w → last_or 0 (row_at v d) ≡ last_or 0 (row_at w d)
      → last_or 0 (leaves v) ≡ last_or 0 (leaves w)
  leaf-last zero a b e = sym (ap (last_or 0) (row-leaves v)) ∙ e ∙ ap (last_or 0) (row-leaves w)
  leaf-last (suc d) a b e =
      let x = ap (last_or 0) (row-below v d a) ∙ down-last v d (row_at v (suc d)) (level-at v (suc d) o a) in
      let y = ap (last_or 0) (row-below w d b) ∙ down-last w d (row_at w (suc d)) (level-at w (suc d) q b) in
      leaf-last d (omega arith) (omega arith)
      (x ∙ ap (λ (n : ℕ). last_or 0 (children v n)) e ∙ sym (ap (last_or 0) (children-root v r (last_or 0 (row_at w (suc d))))) ∙ sym y)

  -- Two trees that share a node share their last leaf.
  pub shared-last : (n : ℕ) → Memᴰ n (reached v) → Memᴰ n (reached (with_root v r)) → last_or 0 (leaves v)
      ≡ last_or 0 (leaves (with_root v r))
  shared-last n a b =
      let x = reached-row v n o a in
      let y = reached-row w n q b in
      let l = (level-at v (v.node n).level o x.level).row in
      let m = (level-at w (v.node n).level q y.level).row in
      leaf-last (v.node n).level x.level y.level
      (same-last v n (row_at v (v.node n).level) (row_at w (v.node n).level) l.chain (linked-root v r (row_at w (v.node n).level) m.chain)
      (row-some v _ _ l) (row-some w _ _ m) x.row y.row)
