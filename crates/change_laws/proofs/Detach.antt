-- A child's slot taken out of its parent: the view lacks that slot, with the same map and the same nodes reached.
use Rattle.std.proofs.Common.{◌≡◌, ℕ, suc, ◌+◌, ◌<◌, Bool, true, false, ◌≢◌, List, [], ◌∷◌, ◌++◌, length, get_or, sym, refl, ap, ◌∙◌, subst}
use Rattle.std.proofs.Common.{⊎_elim, append_assoc, arith, length-append, length-drop, get_or-drop, le-leb, leb-true}
use mathlib.Core.List.{map-append, Memᴰ}
use Rattle.model.specs.Slots.{Slot, slot, View}
use Rattle.model.specs.Search.{below, within}
use Rattle.model.specs.Reached.{filter, head_or, pointers, kept, named, first_child, next_child, children, reached, leaves, mapping}
use Rattle.model.specs.SoundTest.{all, rising, come_first, linked, child_ok, slot_ok, sibling_ok, nothing, missing_in, room}
use Rattle.model.specs.Shifts.{last_pointer, place_of}
use Rattle.view_laws.proofs.NodeViews.{fence_of, shown_of}
use Rattle.list_laws.proofs.Tools.{Each, Each-map, Each-split, Each-append, at-or-off, all-each}
use Rattle.list_laws.proofs.Members.{each-mem, mem-each, mem-here}
use Rattle.list_laws.proofs.Filters.{filter-all}
use Rattle.tree_laws.proofs.Rows.{Good, Named, not-zero, sib-facts, linked-cons, inner, inner-ok, children-inner}
use Rattle.tree_laws.proofs.Kept.{kept-within}
use Rattle.tree_laws.proofs.Rising.{rising-cons, rising-weaken, upper-first}
use Rattle.tree_laws.proofs.Levels.{Orderly, mem-leaves, Bounded, reached-bounds}
use Rattle.tree_laws.proofs.Gaps.{Gap, fill-gap}
use Rattle.tree_laws.proofs.Leftovers.{NothingUnfinished, NoneTrailing, MissingOnly, names-linked}
use Rattle.change_laws.proofs.Updates.{update, update-at, update-off, with_shown}
use Rattle.change_laws.proofs.Siblings.{linked-split}
use Rattle.change_laws.proofs.Parents.{child-reached}
use Rattle.change_laws.proofs.Parts.{inner-iff, good-parts, good-inner, HasLeft, all-finished, Keeps}
use Rattle.change_laws.proofs.Shown.{kept-own, each-first, children-same, shown-reached, shown-mapping, shown-orderly}

rising-out : (lo : ℕ) (a : List Slot) (s : Slot) (b : List Slot) → rising lo (a ++ s ∷ b) ≡ true → rising lo (a ++ b) ≡ true
rising-out lo [] s b h = let u = (rising-cons lo s b).0 h in rising-weaken lo (suc s.key) b (omega (arith, u.0)) u.1
rising-out lo (x ∷ a) s b h = let u =
    (rising-cons lo x (a ++ s ∷ b)).0 h in (rising-cons lo x (a ++ b)).1 (u.0, rising-out (suc x.key) a s b u.1)

each-out : (P : Slot → Type 0) (a : List Slot) (s : Slot) (b : List Slot) → Each P (a ++ s ∷ b) → Each P (a ++ b)
each-out P a s b h = let u = Each-split P a (s ∷ b) h in Each-append P a b u.0 u.1.1

all-out : (q : Slot → Bool) (a : List Slot) (s : Slot) (b : List Slot) → all q (a ++ s ∷ b) ≡ true → all q (a ++ b) ≡ true
all-out q a s b h = (all-each q (a ++ b)).1 (each-out (λ (u : Slot). q u ≡ true) a s b ((all-each q (a ++ s ∷ b)).0 h))

-- the pointers of a row that begins with p: the last of them apart
firsts : (p : ℕ) (ss : List Slot) → (xs : List ℕ) × (p ∷ pointers ss ≡ xs ++ last_pointer p ss ∷ [])
unfolding last_pointer
firsts p [] = ([], refl)
firsts p (s ∷ ss) = let u = firsts s.pointer ss in (p ∷ u.0, ap (λ (l : List ℕ). p ∷ l) u.1)

-- a pointer of these slots is one slot's
slot-of : (x : ℕ) (ss : List Slot) → Memᴰ x (pointers ss) → (s : Slot) × Memᴰ s ss × (s.pointer ≡ x)
slot-of x [] m = absurd (mathlib.Core.List.Memᴰ.not-nil m)
slot-of x (s ∷ ss) m =
    ⊎_elim (λ e. (s, mathlib.Core.List.Memᴰ.head refl, sym e)) (λ t. let u = slot-of x ss t in (u.0, mathlib.Core.List.Memᴰ.tail u.1, u.2))
    (mathlib.Core.List.Memᴰ.cases_cons m)

-- In a settled view a child that is not leftmost has its slot at the place of its fence.
pub child-slot : (v : View) (d p x : ℕ) → HasLeft v nothing → Memᴰ p (reached v) → (v.node p).level ≡ suc d
    → Memᴰ x (children v p) → (v.node p).left ≢ x
    → (place_of (v.node x).fence (v.node p).shown < length (v.node p).shown)
    × ((get_or (v.node p).shown (place_of (v.node x).fence (v.node p).shown) (slot 0 0)).pointer ≡ x)
child-slot v d p x l m lev c z =
    let f = each-mem (NothingUnfinished v) (all-finished v l) m in
    let i = inner v d p (each-mem (Good v) l.orderly.good m) lev in
    let ss = (v.node p).shown in
    let k = (v.node x).fence in
    let q = place_of k ss in
    let at : Memᴰ x ((v.node p).left ∷ pointers ss) =
    rw (f.names (λ e. omega arith) ∙ ap (λ (ks : List Slot). (v.node p).left ∷ pointers ks) f.keeps) at c in
    let u = slot-of x ss (⊎_elim (λ e. absurd (z (sym e))) (λ t. t) (mathlib.Core.List.Memᴰ.cases_cons at)) in
    let e : (v.node x).fence ≡ u.0.key = ap (fence_of v) (sym u.2) ∙ (each-mem (Named v d) (rw f.keeps at i.names) u.1).fence in
    let here : Memᴰ (slot k x) ss = subst (λ (s : Slot). Memᴰ s ss) (λ j. slot (sym e j) (u.2 j)) u.1 in
    let first = upper-first (suc (v.node p).fence) k x ss (rw f.keeps at i.rise) here in
    let same : get_or ss q (slot 0 0) ≡ slot k x =
    ap (λ (n : ℕ). get_or ss n (slot 0 0)) (let z : q ≡ q + 0 = omega arith in z) ∙ sym (get_or-drop q ss 0 (slot 0 0))
    ∙ ap (λ (us : List Slot). get_or us 0 (slot 0 0)) first in
    (omega (arith, length-drop q ss, ap length first), ap (λ (s : Slot). s.pointer) same)

module _ (v : View) (p : ℕ) (low : List Slot) (s : Slot) (high : List Slot) (l : HasLeft v nothing) (m : Memᴰ p (reached v)) (d : ℕ)
    (lev : (v.node p).level ≡ suc d) (shows : (v.node p).shown ≡ low ++ s ∷ high) where
  abbrev v' : View
  v' = with_shown v p (low ++ high)

  abbrev a : ℕ
  a = last_pointer (v.node p).left low

  abbrev x : ℕ
  x = s.pointer

  abbrev before : List ℕ
  before = (firsts (v.node p).left low).0

  o : Orderly v
  o = l.orderly

  fin : NothingUnfinished v p
  fin = each-mem (NothingUnfinished v) (all-finished v l) m

  not-leaf : (v.node p).level ≢ 0
  not-leaf z = omega arith

  kept-p : kept v p ≡ low ++ s ∷ high
  kept-p = fin.keeps ∙ shows

  abbrev inside : Slot → Bool
  inside u = within v p u.key

  within-p : Each (λ (u : Slot). inside u ≡ true) (low ++ high)
  within-p = each-out (λ (u : Slot). inside u ≡ true) low s high (rw kept-p at (kept-within v p))

  shown' : (v'.node p).shown ≡ low ++ high
  shown' = update-at (shown_of v) p (low ++ high)

  kept' : kept v' p ≡ low ++ high
  unfolding kept below
  kept' = ap (filter inside) shown' ∙ filter-all inside (low ++ high) within-p

  -- ---- the row of p's children

  row-with : (rest : List Slot) → (v.node p).left ∷ pointers (low ++ rest) ≡ before ++ a ∷ pointers rest
  row-with rest =
      ap (λ (ns : List ℕ). (v.node p).left ∷ ns) (map-append _ low rest)
      ∙ ap (λ (ns : List ℕ). ns ++ pointers rest) (firsts (v.node p).left low).1
      ∙ append_assoc before (a ∷ []) (pointers rest)

  row : named v p ≡ before ++ a ∷ x ∷ pointers high
  row = ap (λ (ks : List Slot). (v.node p).left ∷ pointers ks) kept-p ∙ row-with (s ∷ high)

  row' : named v' p ≡ before ++ a ∷ pointers high
  row' = ap (λ (ks : List Slot). (v.node p).left ∷ pointers ks) kept' ∙ row-with high

  chain : linked v (before ++ a ∷ x ∷ pointers high) (next_child v p) ≡ true
  chain = rw row at ((names-linked v p not-leaf).0 (fin.names not-leaf))

  parts : (linked v before a ≡ true) × (linked v (a ∷ x ∷ pointers high) (next_child v p) ≡ true)
  parts = linked-split v before a (x ∷ pointers high) (next_child v p) chain

  a-next : ((v.node a).sibling ≡ x) × (linked v (x ∷ pointers high) (next_child v p) ≡ true)
  a-next = (linked-cons v a (x ∷ pointers high) (next_child v p)).0 parts.1

  x-next : ((v.node x).sibling ≡ head_or (next_child v p) (pointers high)) × (linked v (pointers high) (next_child v p) ≡ true)
  x-next = (linked-cons v x (pointers high) (next_child v p)).0 a-next.1

  x-reached : Memᴰ x (reached v)
  x-reached = child-reached v p x o m
      (rw (fin.names not-leaf ∙ row ∙ sym (append_assoc before (a ∷ []) (x ∷ pointers high)))
      (mem-here x (before ++ a ∷ []) (pointers high)))

  x-some : x ≢ 0
  x-some = not-zero v x (each-mem (Bounded v _) (reached-bounds v o) x-reached).0

  -- x is not its own sibling
  apart : (v.node a).sibling ≢ head_or (next_child v p) (pointers high)
  apart e =
      let q : (v.node x).sibling ≡ x = x-next.0 ∙ sym e ∙ a-next.0 in
      let f = sib-facts v x (each-mem (Good v) o.good x-reached) (λ z. x-some (sym q ∙ z)) in
      omega (arith, f.fence, ap (fence_of v) q)

  gap : Gap v' a (named v' p) (next_child v' p)
  unfolding linked first_child
  gap = record { before = before; after = pointers high; shape = row'; joined-before = parts.0; lacks = apart; joined-after = x-next.1 }

  same : children v' p ≡ children v p
  unfolding gap firsts children
  same = children-inner v' d p lev ∙ fill-gap v' a (named v' p) (next_child v' p) gap
      ∙ ap (λ (n : ℕ). before ++ a ∷ n ∷ pointers high) a-next.0 ∙ sym row ∙ sym (fin.names not-leaf)

  -- ---- p is good

  good-p : Good v p → Good v' p
  unfolding sibling_ok child_ok slot_ok linked first_child below
  good-p g =
      let u = good-parts v p g in
      let k = (inner-iff v p).0 (inner-ok v d p g lev) in
      good-inner v' d p lev u.0 u.1 ((inner-iff v' p).1 (record {
        keys = record {
          rise = rw kept' (rising-out (suc (v.node p).fence) low s high (rw kept-p at k.keys.rise));
          first = ap (come_first inside) shown' ∙ each-first inside (low ++ high) within-p;
        };
        left = k.left;
        slots = rw kept' (all-out (slot_ok v (v.node p).level) low s high (rw kept-p at k.slots));
        range = rw same k.range;
        chain = rw same k.chain;
      }))

  out-reached : reached v' ≡ reached v
  out-reached = shown-reached v p (low ++ high) same

  out-mapping : mapping v' ≡ mapping v
  out-mapping = shown-mapping v p (low ++ high) same
      (mem-each _ (leaves v) (λ n h e. absurd (not-leaf (rw e at ((mem-leaves v n o).0 h).1))))

  others : (n : ℕ) → n ≢ p → NothingUnfinished v n → (kept v' n ≡ (v'.node n).shown) × ((v.node n).level ≢ 0 → children v' n ≡ named v' n)
  others n z f =
      let e = update-off (shown_of v) p (low ++ high) n z in
      let k = kept-own v (update (shown_of v) p (low ++ high)) n e in (
        k ∙ f.keeps ∙ sym e,
        λ y. children-same v p (low ++ high) same n ∙ f.names y
            ∙ ap (λ (ks : List Slot). (v.node n).left ∷ pointers ks) (sym k),
      )

  trailing : NoneTrailing v'
  trailing = rw out-reached (Each-map (NothingUnfinished v) (λ (n : ℕ). kept v' n ≡ (v'.node n).shown) (reached v)
      (at-or-off (λ (n : ℕ). NothingUnfinished v n → kept v' n ≡ (v'.node n).shown) p (λ f. kept' ∙ sym shown') (λ n z f. (others n z f).0))
      (all-finished v l))

  missing : MissingOnly v' p a
  missing = rw out-reached (record {
    member = m;
    here = (not-leaf, gap);
    others = Each-map (NothingUnfinished v) (λ (n : ℕ). n ≢ p → (v.node n).level ≢ 0 → children v' n ≡ named v' n) (reached v)
        (λ n f z. (others n z f).1) (all-finished v l);
  })

  shorter : room v p ≡ true → room v' p ≡ true
  unfolding room
  shorter h = rw shown'
      (le-leb (length (low ++ high)) 10
      (omega (arith, leb-true (length (v.node p).shown) 10 h, ap length shows, length-append low (s ∷ high), length-append low high)))

  -- The slot of x is out of p: x, the sibling of the child before it, lacks its slot.
  pub detach : Keeps v (with_shown v p (low ++ high)) (missing_in p (last_pointer (v.node p).left low) false)
  detach = record {
    left = record {
      orderly = shown-orderly v p (low ++ high) same o good-p (rw out-mapping o.recordings);
      left = (rw out-reached l.left.0, trailing, missing);
    };
    mapping = out-mapping;
    reached = out-reached;
    room = shorter;
  }

  -- the child before x has x as its sibling
  pub child-next : (v.node (last_pointer (v.node p).left low)).sibling ≡ s.pointer
  child-next = a-next.0

  -- the node before slot s in p, its left if no slot is before s, is a child of p
  pub before-child : Memᴰ (last_pointer (v.node p).left low) (children v p)
  before-child = rw (fin.names not-leaf ∙ row) (mem-here a before (x ∷ pointers high))
