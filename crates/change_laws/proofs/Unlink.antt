-- An empty leaf that lacks its slot, passed over by its left neighbour: the view is settled, with the same map, and reaches it no more.
use Rattle.std.proofs.Common.{◌≡◌, ℕ, zero, suc, ◌<◌, Bool, true, false, ◌&&◌, ◌||◌, eqb, ltb, ◌≢◌, List, [], ◌∷◌, ◌++◌, length, sym, refl}
use Rattle.std.proofs.Common.{ap, ◌∙◌, append_assoc, append-nil, arith, lt-ltb, eq-eqb}
use mathlib.Core.List.{Memᴰ}
use borrow.Author.Tests.{eqb-false}
use Rattle.model.specs.Table.{in_range}
use Rattle.model.specs.Slots.{Slot, View, height}
use Rattle.model.specs.Search.{below, within}
use Rattle.model.specs.Reached.{filter, flat, head_or, pointers, kept, named, next_child, children, reached_from, leaves_from, reached}
use Rattle.model.specs.Reached.{leaves, mapping}
use Rattle.model.specs.SoundTest.{elem, come_first, linked, child_ok, slot_ok, sibling_ok, nothing, missing_in}
use Rattle.view_laws.proofs.NodeViews.{sibling_of, level_of}
use Rattle.list_laws.proofs.Tools.{Each, Each-map, Each-split, at-or-off, all-each}
use Rattle.list_laws.proofs.Members.{each-mem, mem-each, mem-here, elem-false}
use Rattle.list_laws.proofs.Filters.{filter-all}
use Rattle.list_laws.proofs.Distinct.{Once, once, distinct-middle}
use Rattle.tree_laws.proofs.Cover.{below-true}
use Rattle.tree_laws.proofs.Rows.{Good, not-zero, sib-facts, linked-cons, linked-append, inner, inner-ok, leaf-ok, no-children, each-here}
use Rattle.tree_laws.proofs.Rows.{each-lower}
use Rattle.tree_laws.proofs.Kept.{kept-within, by-level}
use Rattle.tree_laws.proofs.Levels.{Orderly, RootFacts, Bounded, reached-bounds, once-follows}
use Rattle.tree_laws.proofs.Gaps.{Gap}
use Rattle.tree_laws.proofs.Leftovers.{NothingUnfinished, MissingOnly, gap-children, names-linked}
use Rattle.change_laws.proofs.Lists.{Off}
use Rattle.change_laws.proofs.Splice.{splice, splice-nil, splice-append, splice-none, splice-elem, splice-flat, splice-out, splice-once}
use Rattle.change_laws.proofs.Splice.{length-splice, splice-new, each-unsplice, unsplice-mem}
use Rattle.change_laws.proofs.Updates.{update-at, update-off, with_sibling}
use Rattle.change_laws.proofs.Siblings.{linked-split, kept-off, next-off, linked-off}
use Rattle.change_laws.proofs.Parents.{Parent, parent-is, distinct-children, child-reached, child-level}
use Rattle.change_laws.proofs.Shown.{each-first}
use Rattle.change_laws.proofs.Parts.{KeysOk, leaf-iff, InnerOk, inner-iff, good-parts, good-leaf, good-inner, HasLeft, finished-left}

module _ (v : View) (p a : ℕ) (l : HasLeft v (missing_in p a false)) (leaf : (v.node a).level ≡ 0)
    (empty : (v.node (v.node a).sibling).shown ≡ []) where
  abbrev x : ℕ
  x = (v.node a).sibling

  abbrev c : ℕ
  c = (v.node x).sibling

  abbrev u : View
  u = with_sibling v a c

  o : Orderly v
  o = l.orderly

  abbrev g : MissingOnly v p a
  g = l.left.2

  abbrev gap : Gap v a (named v p) (next_child v p)
  gap = g.here.1

  abbrev before : List ℕ
  before = g.here.1.before

  abbrev after : List ℕ
  after = g.here.1.after

  row : children v p ≡ before ++ a ∷ x ∷ after
  row = gap-children v p a g.here.0 gap

  a-child : Memᴰ a (children v p)
  a-child = rw row (mem-here a before (x ∷ after))

  x-child : Memᴰ x (children v p)
  x-child = rw (row ∙ sym (append_assoc before (a ∷ []) (x ∷ after))) (mem-here x (before ++ a ∷ []) after)

  a-reached : Memᴰ a (reached v)
  a-reached = child-reached v p a o g.member a-child

  x-reached : Memᴰ x (reached v)
  x-reached = child-reached v p x o g.member x-child

  p-level : (v.node p).level ≡ 1
  p-level = child-level v p a o g.member a-child ∙ ap suc leaf

  x-leaf : (v.node x).level ≡ 0
  x-leaf = omega (arith, child-level v p x o g.member x-child, p-level)

  good-of : (n : ℕ) → Memᴰ n (reached v) → Good v n
  good-of n m = each-mem (Good v) o.good m

  x-some : x ≢ 0
  x-some = not-zero v x (each-mem (Bounded v (height v)) (reached-bounds v o) x-reached).0

  above : (v.node a).fence < (v.node x).fence
  above = (sib-facts v a (good-of a a-reached) x-some).fence

  parent : Parent v a p
  parent = parent-is v a o p g.member a-child

  -- the row of p's children is linked, so x is followed by what follows the gap
  chain-p : linked v (before ++ a ∷ x ∷ after) (next_child v p) ≡ true
  chain-p = rw row at (inner v 0 p (good-of p g.member) p-level).chain

  x-follows : c ≡ head_or (next_child v p) after
  x-follows = ((linked-cons v x after (next_child v p)).0
      ((linked-cons v a (x ∷ after) (next_child v p)).0 (linked-split v before a (x ∷ after) (next_child v p) chain-p).1).1).0

  offs : Off a (before ++ x ∷ after)
  offs = (elem-false a (before ++ x ∷ after)).0 ((distinct-middle a before (x ∷ after)).0 (rw row at (distinct-children v p o g.member))).0

  off-before : Off a before
  off-before = (Each-split (λ (n : ℕ). n ≢ a) before (x ∷ after) offs).0

  off-after : Off a after
  off-after = (Each-split (λ (n : ℕ). n ≢ a) before (x ∷ after) offs).1.1

  u-at : (u.node a).sibling ≡ c
  u-at = update-at (sibling_of v) a c

  -- ---- kept slots

  kept-x : kept v x ≡ []
  unfolding kept filter
  kept-x = rw empty

  shows-a : kept v a ≡ (v.node a).shown
  shows-a = each-mem (λ (n : ℕ). kept v n ≡ (v.node n).shown) l.left.1 a-reached

  within-a : (k : ℕ) → within v a k ≡ true → within u a k ≡ true
  unfolding below
  within-a k h = ap (λ (n : ℕ). eqb n 0 || ltb k (v.node n).fence) u-at ∙ go (eqb c 0) refl
    where
      go : (b : Bool) → eqb c 0 ≡ b → eqb c 0 || ltb k (v.node c).fence ≡ true
      go true e = rw e
      go false e =
          let f = sib-facts v x (good-of x x-reached) (eqb-false c 0 e) in
          let i : k < (v.node x).fence = below-true v k x x-some h in
          rw e (lt-ltb k (v.node c).fence (omega (arith, f.fence, i)))

  within-all : Each (λ (s : Slot). within u a s.key ≡ true) (kept v a)
  within-all = Each-map (λ (s : Slot). within v a s.key ≡ true) (λ (s : Slot). within u a s.key ≡ true) (kept v a)
      (λ s h. within-a s.key h) (kept-within v a)

  kept-a : kept u a ≡ kept v a
  unfolding kept
  kept-a = ap (filter (λ (s : Slot). within u a s.key)) (sym shows-a) ∙ filter-all (λ (s : Slot). within u a s.key) (kept v a) within-all

  kept-same : (n : ℕ) → kept u n ≡ kept v n
  kept-same = at-or-off (λ (n : ℕ). kept u n ≡ kept v n) a kept-a (λ n z. kept-off v a c n z)

  -- ---- children

  not-a : (n : ℕ) → (v.node n).level ≢ 0 → n ≢ a
  not-a n z e = z (rw e leaf)

  named-same : (n : ℕ) → (v.node n).level ≢ 0 → named u n ≡ named v n
  named-same n z = ap (λ (ks : List Slot). (v.node n).left ∷ pointers ks) (kept-same n)

  linked-p : linked u (named v p) (next_child v p) ≡ true
  linked-p =
      let rest = linked-off v a c after (next_child v p) gap.joined-after off-after in
      rw gap.shape (linked-append u before (a ∷ after) (next_child v p) (linked-off v a c before a gap.joined-before off-before)
      ((linked-cons u a after (next_child v p)).1 (u-at ∙ x-follows, rest)))

  linked-other : (n : ℕ) → Memᴰ n (reached v) → n ≢ p → (v.node n).level ≢ 0 → linked u (named v n) (next_child v n) ≡ true
  linked-other n m z y =
      let e = each-mem (λ (n : ℕ). n ≢ p → (v.node n).level ≢ 0 → children v n ≡ named v n) g.others m z y in
      let f = (elem-false a (children v n)).0 (each-mem (λ (n : ℕ). n ≢ p → elem a (children v n) ≡ false) parent.only m z) in
      linked-off v a c (named v n) (next_child v n) ((names-linked v n y).0 e) (rw e at f)

  linked-all : (n : ℕ) → Memᴰ n (reached v) → (v.node n).level ≢ 0 → linked u (named v n) (next_child v n) ≡ true
  linked-all = at-or-off (λ (n : ℕ). Memᴰ n (reached v) → (v.node n).level ≢ 0 → linked u (named v n) (next_child v n) ≡ true) p
      (λ m y. linked-p) (λ n z m y. linked-other n m z y)

  linked-u : (n : ℕ) → Memᴰ n (reached v) → (v.node n).level ≢ 0 → linked u (named u n) (next_child u n) ≡ true
  linked-u n m y = ap (λ (r : List ℕ). linked u r (next_child u n)) (named-same n y)
      ∙ ap (linked u (named v n)) (next-off v a c n (not-a n y)) ∙ linked-all n m y

  children-u : (n : ℕ) → Memᴰ n (reached v) → (v.node n).level ≢ 0 → children u n ≡ named v n
  children-u n m y = (names-linked u n y).1 (linked-u n m y) ∙ named-same n y

  splice-p : splice a x (named v p) ≡ children v p
  splice-p = splice-once a x (named v p)
      (record { before = before; after = after; shape = gap.shape; not-before = off-before; not-after = off-after }) ∙ sym row

  children-inner-same : (n : ℕ) → Memᴰ n (reached v) → (v.node n).level ≢ 0 → children v n ≡ splice a x (children u n)
  children-inner-same = at-or-off (λ (n : ℕ). Memᴰ n (reached v) → (v.node n).level ≢ 0 → children v n ≡ splice a x (children u n)) p
      (λ m y. sym splice-p ∙ ap (splice a x) (sym (children-u p m y)))
      (λ n z m y.
      let e = each-mem (λ (n : ℕ). n ≢ p → (v.node n).level ≢ 0 → children v n ≡ named v n) g.others m z y in
      let f = (elem-false a (children v n)).0 (each-mem (λ (n : ℕ). n ≢ p → elem a (children v n) ≡ false) parent.only m z) in
      sym (splice-none a x (children v n) f) ∙ ap (splice a x) (e ∙ sym (children-u n m y)))

  abbrev Spliced : ℕ → Type 0
  Spliced n = children v n ≡ splice a x (children u n)

  spliced : (n : ℕ) → Memᴰ n (reached v) → Spliced n
  spliced n m = by-level v (λ (k : ℕ). Spliced n) n
      (λ z. no-children v n z ∙ sym (ap (splice a x) (no-children u n z) ∙ splice-nil a x))
      (λ d e. children-inner-same n m (λ z. omega arith))

  flat-spliced : (ns : List ℕ) → Each Spliced (splice a x ns) → flat (children v) (splice a x ns) ≡ splice a x (flat (children u) ns)
  flat-spliced ns h =
      splice-flat a x (children v) (λ (n : ℕ). splice a x (children u n))
      (ap (λ (r : List ℕ). r ++ children v x) (no-children v a leaf) ∙ no-children v x x-leaf
      ∙ sym (ap (splice a x) (no-children u a leaf) ∙ splice-nil a x)) ns
      (Each-map Spliced (λ (n : ℕ). n ≢ a → Spliced n) ns (λ n e z. e) (each-unsplice a x Spliced ns h)) ∙ splice-out a x (children u) ns

  reached-spliced : (d : ℕ) (ns : List ℕ) → Each Spliced (reached_from v d (splice a x ns)) → reached_from v d (splice a x ns)
      ≡ splice a x (reached_from u d ns)
  unfolding reached_from
  reached-spliced zero ns h = refl
  reached-spliced (suc d) ns h =
      let e = flat-spliced ns (each-here v Spliced (suc d) (splice a x ns) h) in
      let k = rw e at (each-lower v Spliced d (splice a x ns) h) in
      ap (λ (r : List ℕ). splice a x ns ++ reached_from v d r) e
      ∙ ap (λ (r : List ℕ). splice a x ns ++ r) (reached-spliced d (flat (children u) ns) k)
      ∙ sym (splice-append a x ns (reached_from u d (flat (children u) ns)))

  leaves-spliced : (d : ℕ) (ns : List ℕ) → Each Spliced (reached_from v d (splice a x ns)) → leaves_from v d (splice a x ns)
      ≡ splice a x (leaves_from u d ns)
  unfolding leaves_from
  leaves-spliced zero ns h = refl
  leaves-spliced (suc d) ns h =
      let e = flat-spliced ns (each-here v Spliced (suc d) (splice a x ns) h) in
      let k = rw e at (each-lower v Spliced d (splice a x ns) h) in
      ap (leaves_from v d) e ∙ leaves-spliced d (flat (children u) ns) k

  -- ---- the whole tree

  not-root : v.root ≢ a
  not-root e =
      let b = each-mem (Bounded v (height v)) (reached-bounds v o) g.member in
      omega (arith, b.1, p-level, leaf, ap (level_of v) e)

  start : splice a x (v.root ∷ []) ≡ v.root ∷ []
  start = splice-none a x (v.root ∷ []) (not-root, tt)

  all-spliced : Each Spliced (reached_from v (height v) (splice a x (v.root ∷ [])))
  all-spliced = rw start (mem-each Spliced (reached v) spliced)

  reached-is : reached v ≡ splice a x (reached u)
  reached-is = ap (reached_from v (height v)) (sym start) ∙ reached-spliced (height v) (v.root ∷ []) all-spliced

  leaves-are : leaves v ≡ splice a x (leaves u)
  leaves-are = ap (leaves_from v (height v)) (sym start) ∙ leaves-spliced (height v) (v.root ∷ []) all-spliced

  mapping-same : mapping u ≡ mapping v
  unfolding mapping
  mapping-same = sym (ap (flat (kept v)) leaves-are
      ∙ splice-flat a x (kept v) (kept u) (ap (λ (r : List Slot). kept v a ++ r) kept-x ∙ append-nil (kept v a) ∙ sym kept-a) (leaves u)
      (mem-each _ (leaves u) (λ n m z. sym (kept-same n))))

  from-v : (P : ℕ → Type 0) → ((n : ℕ) → Memᴰ n (reached v) → P n) → Each P (reached u)
  from-v P f = each-unsplice a x P (reached u) (rw reached-is at (mem-each P (reached v) f))

  -- ---- good nodes

  sib-off : (n : ℕ) → n ≢ a → sibling_ok v n ≡ true → sibling_ok u n ≡ true
  unfolding sibling_ok
  sib-off n z h = ap (λ (s : ℕ). eqb s 0 ||
      (in_range v.nodes s && (eqb (v.node s).level (v.node n).level && ltb (v.node n).fence (v.node s).fence)))
      (update-off (sibling_of v) a c n z) ∙ h

  sib-a : sibling_ok u a ≡ true
  unfolding sibling_ok
  sib-a = ap (λ (s : ℕ). eqb s 0 ||
      (in_range v.nodes s && (eqb (v.node s).level (v.node a).level && ltb (v.node a).fence (v.node s).fence))) u-at ∙ go (eqb c 0) refl
    where
      go : (b : Bool) → eqb c 0 ≡ b
          → eqb c 0 || (in_range v.nodes c && (eqb (v.node c).level (v.node a).level && ltb (v.node a).fence (v.node c).fence)) ≡ true
      go true e = rw e
      go false e =
          let f = sib-facts v x (good-of x x-reached) (eqb-false c 0 e) in
          rw (
            e,
            f.range,
            eq-eqb (v.node c).level (v.node a).level (f.level ∙ x-leaf ∙ sym leaf),
            lt-ltb (v.node a).fence (v.node c).fence (omega (arith, f.fence, above)),
          ) refl

  abbrev First : View → ℕ → Type 0
  First w n = come_first (λ (s : Slot). within w n s.key) (v.node n).shown ≡ true

  first-off : (n : ℕ) → n ≢ a → First v n → First u n
  unfolding below
  first-off n z h = ap (λ (m : ℕ). come_first (λ (s : Slot). below v m s.key) (v.node n).shown) (update-off (sibling_of v) a c n z) ∙ h

  first-a : First u a
  first-a = each-first (λ (s : Slot). within u a s.key) (v.node a).shown (rw shows-a at within-all)

  keys-u : (n low : ℕ) → KeysOk v n low → KeysOk u n low
  keys-u n low k = record
      { rise = rw (kept-same n) k.rise; first = at-or-off (λ (m : ℕ). First v m → First u m) a (λ h. first-a) first-off n k.first }

  sib-u : (n : ℕ) → sibling_ok v n ≡ true → sibling_ok u n ≡ true
  sib-u = at-or-off (λ (n : ℕ). sibling_ok v n ≡ true → sibling_ok u n ≡ true) a (λ h. sib-a) sib-off

  inner-u : (d n : ℕ) → (v.node n).level ≡ suc d → Memᴰ n (reached v) → InnerOk v n → InnerOk u n
  unfolding child_ok slot_ok
  inner-u d n e m k =
      let y : (v.node n).level ≢ 0 = λ z. omega arith in
      record {
        keys = keys-u n (suc (v.node n).fence) k.keys;
        left = k.left;
        slots = rw (kept-same n) k.slots;
        range = (all-each (in_range v.nodes) (children u n)).1
            (each-unsplice a x (λ (i : ℕ). in_range v.nodes i ≡ true) (children u n)
            (rw (spliced n m) at ((all-each (in_range v.nodes) (children v n)).0 k.range)));
        chain = ap (λ (r : List ℕ). linked u r (next_child u n)) (children-u n m y ∙ sym (named-same n y)) ∙ linked-u n m y;
      }

  good-u : (n : ℕ) → Memᴰ n (reached v) → Good u n
  good-u n m =
      let h = good-of n m in
      let w = good-parts v n h in
      by-level v (λ (k : ℕ). Good u n) n
      (λ z. let k = (leaf-iff v n).0 (leaf-ok v n h z) in good-leaf u n z w.0 (sib-u n w.1)
      ((leaf-iff u n).1 (record { left = k.left; keys = keys-u n (v.node n).fence k.keys })))
      (λ d z. good-inner u d n z w.0 (sib-u n w.1) ((inner-iff u n).1 (inner-u d n z m ((inner-iff v n).0 (inner-ok v d n h z)))))

  finished-u : (n : ℕ) → Memᴰ n (reached v) → NothingUnfinished u n
  finished-u n m = record {
    shows = each-mem (λ (n : ℕ). (v.node n).hidden ≡ 0) l.left.0 m;
    keeps = kept-same n ∙ each-mem (λ (n : ℕ). kept v n ≡ (v.node n).shown) l.left.1 m;
    names = λ y. children-u n m y ∙ sym (named-same n y);
  }

  top : RootFacts u
  top = record {
    range = o.top.range;
    level = o.top.level;
    fence = o.top.fence;
    sibling = update-off (sibling_of v) a c v.root not-root ∙ o.top.sibling;
  }

  settles : HasLeft u nothing
  settles = finished-left u
      (record {
        top = top;
        good = from-v (Good u) good-u;
        once = once-follows u top (from-v (Good u) good-u);
        recordings = rw mapping-same o.recordings;
      }) (from-v (NothingUnfinished u) finished-u)

  -- ---- x is reached no more

  once-a : Once a (reached u)
  once-a = once a (reached u) settles.orderly.once (unsplice-mem a x (reached u) (rw reached-is at a-reached))

  freed : elem x (reached u) ≡ false
  freed = splice-new a x (reached u) once-a (rw reached-is at o.once)

  fewer : length (reached v) ≡ suc (length (reached u))
  fewer = ap length reached-is ∙ length-splice a x (reached u) once-a

  others : (n : ℕ) → n ≢ x → elem n (reached u) ≡ elem n (reached v)
  others n z = sym (splice-elem a x n (reached u) z) ∙ ap (elem n) (sym reached-is)

-- what passing over x, the empty sibling of leaf a, does
pub record Unlinked (v u : View) (x : ℕ) : Type 0 where
  pub left : HasLeft u nothing
  pub mapping : mapping u ≡ mapping v
  pub freed : elem x (reached u) ≡ false
  pub fewer : length (reached v) ≡ suc (length (reached u))
  pub others : (n : ℕ) → n ≢ x → elem n (reached u) ≡ elem n (reached v)

-- a leaf's sibling that lacks its slot and shows nothing, unlinked, is no longer reached; the map stays, nothing is left over
pub unlink : (v : View) (p a : ℕ) → HasLeft v (missing_in p a false) → (v.node a).level ≡ 0 → (v.node (v.node a).sibling).shown ≡ []
    → Unlinked v (with_sibling v a (v.node (v.node a).sibling).sibling) (v.node a).sibling
unlink v p a l z e = record {
  left = settles v p a l z e;
  mapping = mapping-same v p a l z e;
  freed = freed v p a l z e;
  fewer = fewer v p a l z e;
  others = others v p a l z e;
}

-- the nodes reached before are those reached after, and x behind a
pub unlink-reached : (v : View) (p a : ℕ) → HasLeft v (missing_in p a false) → (v.node a).level ≡ 0 → (v.node (v.node a).sibling).shown ≡ []
    → reached v ≡ splice a (v.node a).sibling (reached (with_sibling v a (v.node (v.node a).sibling).sibling))
unlink-reached = reached-is
