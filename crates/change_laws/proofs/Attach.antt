-- The slot of B, which lacks it, put into the parent: the view is settled, with the same map and the same nodes reached.
use Rattle.std.proofs.Common.{◌≡◌, ℕ, suc, ◌-◌, ◌<◌, ◌≤◌, Bool, true, false, ◌||◌, eqb, ltb, ◌≢◌, List, [], ◌∷◌, ◌++◌, length, take, drop}
use Rattle.std.proofs.Common.{sym, refl, ap, ◌∙◌, append_assoc, arith, take_at, drop_at, lt-ltb}
use mathlib.Core.List.{map-append, Memᴰ}
use borrow.Author.Tests.{eqb-false}
use Rattle.model.specs.Table.{in_range}
use Rattle.model.specs.Slots.{Slot, slot, View}
use Rattle.model.specs.Search.{below, within}
use Rattle.model.specs.Reached.{head_or, pointers, kept, named, first_child, next_child, fill_row, children, reached, leaves, mapping}
use Rattle.model.specs.SoundTest.{all, elem, sibling_ok, rising, come_first, linked, child_ok, slot_ok, nothing, missing_in}
use Rattle.model.specs.Shifts.{place_of}
use Rattle.view_laws.proofs.NodeViews.{level_of, fence_of, shown_of}
use Rattle.list_laws.proofs.Tools.{decode, and-iff, or-right, Each, Each-append, Each-split, Each-map, all-each, all-append, at-or-off}
use Rattle.list_laws.proofs.Members.{each-mem, each-both, mem-here}
use Rattle.list_laws.proofs.Filters.{filter-all}
use Rattle.list_laws.proofs.Distinct.{distinct-middle}
use Rattle.list_laws.proofs.Lists.{cons-same}
use Rattle.tree_laws.proofs.Rows.{Good, At, Named, Inner, inner, left-range, not-zero, sib-facts, inner-ok, linked-cons, first-child}
use Rattle.tree_laws.proofs.Cover.{below-true}
use Rattle.tree_laws.proofs.Rising.{rising-cons, rising-from, rising-raise, rising-join, Apart, rising-apart, place-between}
use Rattle.tree_laws.proofs.Kept.{kept-within}
use Rattle.tree_laws.proofs.Levels.{Orderly, level-leaves}
use Rattle.tree_laws.proofs.Gaps.{Gap, fill-whole}
use Rattle.tree_laws.proofs.Leftovers.{NothingUnfinished, MissingOnly, gap-children, children-of}
use Rattle.change_laws.proofs.Updates.{update-at, update-off, with_shown}
use Rattle.change_laws.proofs.Parts.{InnerOk, inner-iff, good-parts, good-inner, HasLeft, finished-left, Keeps}
use Rattle.change_laws.proofs.Shown.{finished-own, each-first, shown-reached, shown-mapping, shown-orderly}
use Rattle.change_laws.proofs.Pairs.{slot_in}
use Rattle.change_laws.proofs.Parents.{sibling-reached, child-reached, child-level, distinct-children}
use Rattle.change_laws.proofs.Siblings.{linked-split}

-- ---- the slots before and after a's child

record Around (left : ℕ) (ss : List Slot) (before : List ℕ) (a : ℕ) (after : List ℕ) : Type 0 where
  low : List Slot
  high : List Slot
  shape : ss ≡ low ++ high
  lower : left ∷ pointers low ≡ before ++ a ∷ []
  upper : pointers high ≡ after

never : (bs : List ℕ) (a : ℕ) (after : List ℕ) → [] ≡ bs ++ a ∷ after → ⊥
never [] a after e = let z : ◌≡◌ {A = ℕ} 0 1 = cc in omega arith
never (x ∷ bs) a after e = let z : ◌≡◌ {A = ℕ} 0 1 = cc in omega arith

around : (left : ℕ) (ss : List Slot) (before : List ℕ) (a : ℕ) (after : List ℕ) → left ∷ pointers ss ≡ before ++ a ∷ after
    → Around left ss before a after
around left ss [] a after e = let u =
    cons-same left a (pointers ss) after e in record { low = []; high = ss; shape = refl; lower = ap (λ (n : ℕ). n ∷ []) u.0; upper = u.1 }
around left [] (x ∷ bs) a after e = absurd (never bs a after (cons-same left x [] (bs ++ a ∷ after) e).1)
around left (s ∷ ss) (x ∷ bs) a after e =
    let u = cons-same left x (s.pointer ∷ pointers ss) (bs ++ a ∷ after) e in
    let r = around s.pointer ss bs a after u.1 in
    record {
      low = s ∷ r.low;
      high = r.high;
      shape = ap (λ (l : List Slot). s ∷ l) r.shape;
      lower = ap (λ (n : ℕ). n ∷ s.pointer ∷ pointers r.low) u.0 ∙ ap (λ (l : List ℕ). x ∷ l) r.lower;
      upper = r.upper;
    }

module _ (v : View) where
  -- the last of them is a, and its fence is below k: so are their keys
  low-below : (k left : ℕ) (ss : List Slot) (before : List ℕ) (a : ℕ) → left ∷ pointers ss ≡ before ++ a ∷ []
      → Each (λ (s : Slot). (v.node s.pointer).fence ≡ s.key) ss → rising (suc (v.node left).fence) ss ≡ true
      → (v.node a).fence < k → ((v.node left).fence < k) × Each (λ (s : Slot). s.key < k) ss
  low-below k left [] [] a e n r h = let q =
      (cons-same left a [] [] e).0 in (let y : (v.node left).fence ≡ (v.node a).fence = ap (fence_of v) q in omega arith, tt)
  low-below k left [] (x ∷ bs) a e n r h = absurd (never bs a [] (cons-same left x [] (bs ++ a ∷ []) e).1)
  low-below k left (s ∷ ss) [] a e n r h =
      absurd (never [] s.pointer (pointers ss) (sym (cons-same left a (s.pointer ∷ pointers ss) [] e).1))
  low-below k left (s ∷ ss) (x ∷ bs) a e n r h =
      let u = (rising-cons (suc (v.node left).fence) s ss).0 r in
      let q = n.0 in
      let w = low-below k s.pointer ss bs a (cons-same left x (s.pointer ∷ pointers ss) (bs ++ a ∷ []) e).1 n.1 (rw (ap suc q) u.1) h in
      let y = w.0 in
      let z = u.0 in
      (omega arith, (omega arith, w.1))

-- ---- the parent p of a lacks the slot of B, a's sibling

module _ (v : View) (p a : ℕ) (l : HasLeft v (missing_in p a false)) where
  abbrev B : ℕ
  B = (v.node a).sibling

  abbrev e : ℕ
  e = next_child v p

  abbrev o : Orderly v
  o = l.orderly

  abbrev lacks : MissingOnly v p a
  lacks = l.left.2

  abbrev gap : Gap v a (named v p) (next_child v p)
  gap = lacks.here.1

  abbrev before : List ℕ
  before = gap.before

  abbrev after : List ℕ
  after = gap.after

  abbrev d : ℕ
  d = (v.node p).level - 1

  p-level : (v.node p).level ≡ suc d
  p-level = let z = lacks.here.0 in omega arith

  good-p : Good v p
  good-p = each-mem (Good v) o.good lacks.member

  in-p : Inner v d p
  in-p = inner v d p good-p p-level

  row : children v p ≡ before ++ a ∷ B ∷ after
  row = gap-children v p a lacks.here.0 gap

  chain : linked v (before ++ a ∷ B ∷ after) e ≡ true
  chain = rw row at in-p.chain

  chain-B : ((v.node B).sibling ≡ head_or e after) × (linked v after e ≡ true)
  chain-B = (linked-cons v B after e).0 ((linked-cons v a (B ∷ after) e).0 (linked-split v before a (B ∷ after) e chain).1).1

  in-range : Each (λ (n : ℕ). in_range v.nodes n ≡ true) (before ++ a ∷ B ∷ after)
  in-range = (all-each (in_range v.nodes) (before ++ a ∷ B ∷ after)).0 (rw row at in-p.range)

  B-in : Memᴰ B (before ++ a ∷ B ∷ after)
  B-in = rw (append_assoc before (a ∷ []) (B ∷ after)) at (mem-here B (before ++ a ∷ []) after)

  child : (n : ℕ) → Memᴰ n (before ++ a ∷ B ∷ after) → Good v n
  child n m = each-mem (Good v) o.good (child-reached v p n o lacks.member (rw row m))

  B-not : B ≢ 0
  B-not = not-zero v B (each-mem (λ (n : ℕ). in_range v.nodes n ≡ true) in-range B-in)

  B-above : (v.node a).fence < (v.node B).fence
  B-above = (sib-facts v a (child a (mem-here a before (B ∷ after))) B-not).fence

  -- where B has a sibling its fence is above B's
  B-below : (v.node B).sibling ≢ 0 → (v.node B).fence < (v.node (v.node B).sibling).fence
  B-below z = (sib-facts v B (child B B-in) z).fence

  keeps-p : kept v p ≡ (v.node p).shown
  keeps-p = each-mem (λ (n : ℕ). kept v n ≡ (v.node n).shown) l.left.1 lacks.member

  parts : Around (v.node p).left (v.node p).shown before a after
  parts = around (v.node p).left (v.node p).shown before a after
      (ap (λ (ks : List Slot). (v.node p).left ∷ pointers ks) (sym keeps-p) ∙ gap.shape)

  abbrev low : List Slot
  low = parts.low

  abbrev high : List Slot
  high = parts.high

  kept-p : kept v p ≡ low ++ high
  kept-p = keeps-p ∙ parts.shape

  names : Each (λ (s : Slot). (v.node s.pointer).fence ≡ s.key) low × Each (λ (s : Slot). (v.node s.pointer).fence ≡ s.key) high
  names = Each-split (λ (s : Slot). (v.node s.pointer).fence ≡ s.key) low high
      (rw kept-p at (Each-map (Named v d) (λ (s : Slot). (v.node s.pointer).fence ≡ s.key) (kept v p) (λ s u. u.fence) in-p.names))

  rise : Apart (suc (v.node p).fence) low high
  rise = rising-apart (suc (v.node p).fence) low high (rw kept-p at in-p.rise)

  within-p : Each (λ (s : Slot). within v p s.key ≡ true) low × Each (λ (s : Slot). within v p s.key ≡ true) high
  within-p = Each-split (λ (s : Slot). within v p s.key ≡ true) low high (rw kept-p at (kept-within v p))

  lower : ((v.node (v.node p).left).fence < (v.node B).fence) × Each (λ (s : Slot). s.key < (v.node B).fence) low
  lower = low-below v (v.node B).fence (v.node p).left low before a parts.lower names.0 (rw (ap suc in-p.left_fence) rise.left) B-above

  after-range : Each (λ (n : ℕ). in_range v.nodes n ≡ true) after
  after-range = (Each-split (λ (n : ℕ). in_range v.nodes n ≡ true) before (a ∷ B ∷ after) in-range).1.1.1

  -- the slot after B's place has a higher key
  head-above : (s : Slot) (ss : List Slot) → pointers (s ∷ ss) ≡ after → (v.node s.pointer).fence ≡ s.key → (v.node B).fence < s.key
  head-above s ss q n =
      let sb : (v.node B).sibling ≡ s.pointer = chain-B.0 ∙ ap (head_or e) (sym q) in
      let z = not-zero v s.pointer (rw (sym q) at after-range).0 in
      let h = B-below (λ y. z (sym sb ∙ y)) in
      let w : (v.node (v.node B).sibling).fence ≡ s.key = ap (fence_of v) sb ∙ n in
      omega arith

  upper-from : (ss : List Slot) (from : ℕ) → pointers ss ≡ after → Each (λ (s : Slot). (v.node s.pointer).fence ≡ s.key) ss → rising from ss
      ≡ true → Each (λ (s : Slot). (v.node B).fence < s.key) ss
  upper-from [] from q n r = tt
  upper-from (s ∷ ss) from q n r =
      let y = head-above s ss q n.0 in
      let u = (rising-cons from s ss).0 r in (
        y,
        Each-map (λ (t : Slot). suc s.key ≤ t.key) (λ (t : Slot). (v.node B).fence < t.key) ss (λ t h. omega arith)
            (rising-from (suc s.key) ss u.1),
      )

  upper : Each (λ (s : Slot). (v.node B).fence < s.key) high
  upper = upper-from high (suc (v.node p).fence) parts.upper names.1 rise.right

  -- B's fence is below that of p's sibling
  last-below : (v.node p).sibling ≢ 0 → after ≡ [] → (v.node B).fence < (v.node (v.node p).sibling).fence
  last-below z q =
      let f = sib-facts v p good-p z in
      let i = inner v d (v.node p).sibling (each-mem (Good v) o.good (sibling-reached v p o lacks.member z)) (f.level ∙ p-level) in
      let sb : (v.node B).sibling ≡ (v.node (v.node p).sibling).left = chain-B.0 ∙ ap (head_or e) q ∙ first-child v (v.node p).sibling z in
      let h = B-below (λ y. not-zero v (v.node (v.node p).sibling).left (left-range v d (v.node p).sibling i) (sym sb ∙ y)) in
      let w : (v.node (v.node B).sibling).fence ≡ (v.node (v.node p).sibling).fence = ap (fence_of v) sb ∙ i.left_fence in
      omega arith

  below-sibling : (ss : List Slot) → pointers ss ≡ after → Each (λ (s : Slot). (v.node B).fence < s.key) ss
      → Each (λ (s : Slot). within v p s.key ≡ true) ss → (v.node p).sibling ≢ 0 → (v.node B).fence < (v.node (v.node p).sibling).fence
  below-sibling [] q h w z = last-below z (sym q)
  below-sibling (s ∷ ss) q h w z = let y = below-true v s.key (v.node p).sibling z w.0 in let x = h.0 in omega arith

  within-B : within v p (v.node B).fence ≡ true
  unfolding below
  within-B = go (eqb (v.node p).sibling 0) refl
    where
      go : (b : Bool) → eqb (v.node p).sibling 0 ≡ b
          → eqb (v.node p).sibling 0 || ltb (v.node B).fence (v.node (v.node p).sibling).fence ≡ true
      go true c = rw c
      go false c = or-right (eqb (v.node p).sibling 0) _
          (lt-ltb (v.node B).fence (v.node (v.node p).sibling).fence
          (below-sibling high parts.upper upper within-p.1 (eqb-false (v.node p).sibling 0 c)))

  -- ---- with the slot

  abbrev ys : List Slot
  ys = low ++ slot (v.node B).fence B ∷ high

  place : place_of (v.node B).fence (v.node p).shown ≡ length low
  place = ap (place_of (v.node B).fence) parts.shape
      ∙ place-between (v.node B).fence low high lower.1
      (Each-map (λ (s : Slot). (v.node B).fence < s.key) (λ (s : Slot). (v.node B).fence ≤ s.key) high (λ s h. omega arith) upper)

  slots : slot_in (v.node B).fence B (v.node p).shown ≡ ys
  slots =
      ap (λ (n : ℕ). take n (v.node p).shown ++ slot (v.node B).fence B ∷ drop n (v.node p).shown) place
      ∙ ap (λ (ss : List Slot). take (length low) ss ++ slot (v.node B).fence B ∷ drop (length low) ss) parts.shape
      ∙ ap (λ (ss : List Slot). ss ++ slot (v.node B).fence B ∷ drop (length low) (low ++ high)) (take_at low high (length low) refl)
      ∙ ap (λ (ss : List Slot). low ++ slot (v.node B).fence B ∷ ss) (drop_at low high (length low) refl)

  abbrev v' : View
  v' = with_shown v p ys

  rise-new : rising (suc (v.node p).fence) ys ≡ true
  rise-new =
      let y = lower.0 in
      let z = in-p.left_fence in
      rising-join (suc (v.node p).fence) (v.node B).fence low (slot (v.node B).fence B ∷ high) (omega arith) rise.left lower.1
      ((rising-cons (v.node B).fence (slot (v.node B).fence B) high).1
      (omega arith, rising-raise (suc (v.node p).fence) (suc (v.node B).fence) high rise.right upper))

  within-new : Each (λ (s : Slot). within v p s.key ≡ true) ys
  within-new = Each-append (λ (s : Slot). within v p s.key ≡ true) low (slot (v.node B).fence B ∷ high) within-p.0 (within-B, within-p.1)

  kept-new : kept v' p ≡ ys
  unfolding kept below
  kept-new = rw (update-at (shown_of v) p ys) (filter-all (λ (s : Slot). within v p s.key) ys within-new)

  named-new : (v.node p).left ∷ pointers (kept v' p) ≡ before ++ a ∷ B ∷ after
  named-new = ap (λ (ks : List Slot). (v.node p).left ∷ pointers ks) kept-new
      ∙ ap (λ (r : List ℕ). (v.node p).left ∷ r) (map-append (λ (s : Slot). s.pointer) low (slot (v.node B).fence B ∷ high))
      ∙ ap (λ (r : List ℕ). r ++ B ∷ pointers high) parts.lower ∙ append_assoc before (a ∷ []) (B ∷ pointers high)
      ∙ ap (λ (r : List ℕ). before ++ a ∷ B ∷ r) parts.upper

  children-new : children v' p ≡ before ++ a ∷ B ∷ after
  unfolding fill_row first_child
  children-new = children-of v' p lacks.here.0 ∙ ap (λ (r : List ℕ). fill_row v r e) named-new
      ∙ (fill-whole v (before ++ a ∷ B ∷ after) e).1 chain

  same : children v' p ≡ children v p
  same = children-new ∙ sym row

  slot-B : slot_ok v (v.node p).level (slot (v.node B).fence B) ≡ true
  unfolding slot_ok child_ok
  slot-B = simp decode (sym (child-level v p B o lacks.member (rw row B-in)), refl)

  inner-new : InnerOk v p → InnerOk v' p
  unfolding child_ok slot_ok linked first_child all below
  inner-new k =
      let sl = (all-append (slot_ok v (v.node p).level) low high).0 (rw kept-p at k.slots) in
      let sn : all (slot_ok v (v.node p).level) ys ≡ true = (all-append (slot_ok v (v.node p).level) low
      (slot (v.node B).fence B ∷ high)).1 (sl.0, (and-iff (slot_ok v (v.node p).level (slot (v.node B).fence B)) _).1 (slot-B, sl.1)) in
      record {
        keys = record {
          rise = rw kept-new rise-new;
          first = ap (come_first (λ (s : Slot). within v p s.key)) (update-at (shown_of v) p ys)
              ∙ each-first (λ (s : Slot). within v p s.key) ys within-new;
        };
        left = k.left;
        slots = rw kept-new sn;
        range = rw same k.range;
        chain = rw same k.chain;
      }

  good-new : Good v p → Good v' p
  unfolding sibling_ok in_range
  good-new g = let u =
      good-parts v p g in good-inner v' d p p-level u.0 u.1 ((inner-iff v' p).1 (inner-new ((inner-iff v p).0 (inner-ok v d p g p-level))))

  -- every node but p was finished
  nearly : Each (λ (n : ℕ). n ≢ p → NothingUnfinished v n) (reached v)
  nearly = Each-map (λ (n : ℕ). ((v.node n).hidden ≡ 0)
      × ((kept v n ≡ (v.node n).shown) × (n ≢ p → (v.node n).level ≢ 0 → children v n ≡ named v n)))
      (λ (n : ℕ). n ≢ p → NothingUnfinished v n) (reached v)
      (λ n h z. record { shows = h.0; keeps = h.1.0; names = h.1.1 z })
      (each-both _ _ (reached v) l.left.0 (each-both _ _ (reached v) l.left.1 lacks.others))

  finished-p : NothingUnfinished v' p
  finished-p = record {
    shows = each-mem (λ (n : ℕ). (v.node n).hidden ≡ 0) l.left.0 lacks.member;
    keeps = kept-new
        ∙ sym (update-at (shown_of v) p ys);
    names = λ z. children-new ∙ sym named-new;
  }

  finished-new : (n : ℕ) → (n ≢ p → NothingUnfinished v n) → NothingUnfinished v' n
  finished-new = at-or-off (λ (n : ℕ). (n ≢ p → NothingUnfinished v n) → NothingUnfinished v' n) p (λ h. finished-p)
      (λ n z h. finished-own v _ n (update-off (shown_of v) p ys n z) (h z))

  not-leaf : Each (λ (n : ℕ). n ≢ p) (leaves v)
  not-leaf = Each-map (At v 0) (λ (n : ℕ). n ≢ p) (leaves v)
      (λ n t q. let y : (v.node n).level ≡ (v.node p).level = ap (level_of v) q in let z = p-level in omega (arith, t.level))
      (level-leaves v o).row.at

  new-reached : reached v' ≡ reached v
  new-reached = shown-reached v p ys same

  new-mapping : mapping v' ≡ mapping v
  new-mapping = shown-mapping v p ys same
      (Each-map (λ (n : ℕ). n ≢ p) (λ (n : ℕ). n ≡ p → kept v' p ≡ kept v p) (leaves v) (λ n z q. absurd (z q)) not-leaf)

  new-settled : HasLeft v' nothing
  new-settled = finished-left v' (shown-orderly v p ys same o good-new (rw new-mapping o.recordings))
      (rw new-reached (Each-map (λ (n : ℕ). n ≢ p → NothingUnfinished v n) (NothingUnfinished v') (reached v) finished-new nearly))

  -- B is no pointer of p, nor its left
  pub attach-fresh : elem (v.node a).sibling (named v p) ≡ false
  attach-fresh =
      let q : children v p ≡ (before ++ a ∷ []) ++ B ∷ after = row ∙ sym (append_assoc before (a ∷ []) (B ∷ after)) in
      let n : named v p ≡ (before ++ a ∷ []) ++ after = gap.shape ∙ sym (append_assoc before (a ∷ []) after) in
      ap (elem B) n ∙ ((distinct-middle B (before ++ a ∷ []) after).0 (rw q at (distinct-children v p o lacks.member))).0

-- nothing is left unfinished, with the same map and the same nodes reached
pub attach-settles :
    (v : View) (p a : ℕ) → HasLeft v (missing_in p a false)
    → Keeps v (with_shown v p (slot_in (v.node (v.node a).sibling).fence (v.node a).sibling (v.node p).shown)) nothing
attach-settles v p a l =
    rw (slots v p a l) (record { left = new-settled v p a l; mapping = new-mapping v p a l; reached = new-reached v p a l; room = λ r. r })
