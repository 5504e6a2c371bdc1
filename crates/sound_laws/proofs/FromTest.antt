-- From the test to the sentences of "Sound tables": what each listed node shows, and the leftover that what is unfinished amounts to.
use Rattle.std.proofs.Common.{◌≡◌, ℕ, zero, suc, ◌+◌, ◌<◌, ◌≤◌, true, false, not, ◌≢◌, ◌⊎◌, List, ◌++◌, map, length, get_or, sym, refl, ap}
use Rattle.std.proofs.Common.{◌∙◌, subst, inl, inr, arith, length-append, leb-true}
use mathlib.Core.List.Memᴰ
use mathlib.Core.List.{Memᴰ}
use borrow.Author.Tests.{not-true}
use Rattle.model.specs.Table.{MARK, in_range}
use Rattle.model.specs.Slots.{Slot, slot, View, recording, class, recording_ok, class_ok}
use Rattle.model.specs.Search.{within, route, down}
use Rattle.model.specs.Reached.{flat, kept, named, next_child, children, reached, leaves, mapping}
use Rattle.model.specs.SoundTest.{distinct, leaf_ok, node_ok, pair_ok, Leftover, nothing, hidden_in, missing_in, both_in, room, has_room}
use Rattle.model.specs.Sound.{Reached, by-sibling, Child, left-child, slot-child, Lacks, SettledBut, OneHidden, LacksSlot, TrailingSlots}
use Rattle.model.specs.Sound.{IsLeft}
use Rattle.view_laws.proofs.NodeViews.{level_of}
use Rattle.list_laws.proofs.Tools.{decode, and-iff, Each, all-each}
use Rattle.list_laws.proofs.Members.{each-mem, mem-each, get_d-in, mem-flat, map-flat}
use Rattle.list_laws.proofs.Filters.{mem-filter}
use Rattle.list_laws.proofs.Distinct.{flat-apart, distinct-once}
use Rattle.list_laws.proofs.Recordings.{recording-iff, class-iff, pair-iff, recordings-iff}
use Rattle.tree_laws.proofs.Rows.{Good, Row, Inner, Named, inner, leaf-ok, sib-facts, SibFacts, no-children, children-inner, range-iff}
use Rattle.tree_laws.proofs.Levels.{Orderly, row_at, level-at, reached-row, ascending, row-apart}
use Rattle.tree_laws.proofs.Parents.{reached-children}
use Rattle.tree_laws.proofs.Rising.{rising-from, rise-from-rising}
use Rattle.tree_laws.proofs.Kept.{ignored, inner-rises, kept-rises, kept-from, shown-split, kept-whole}
use Rattle.tree_laws.proofs.MapLaw.{leaf-recordings}
use Rattle.tree_laws.proofs.Leftovers.{HiddenOnly, TrailingOnly, MissingOnly, Left}
use Rattle.sound_laws.proofs.Neighbours.{there, Lost, in-fill, gap-lost}
use Rattle.sound_laws.proofs.Fences.{row-next}
use Rattle.sound_laws.proofs.Leftovers.{none-hidden, keeps-all, keeps-else, keys-below, lost-lacks}
use Rattle.sound_laws.proofs.Joined.{Joined, Stray, kept-in, kept-child, named-child, child-inner, parent-same, sibling-same, named-ascend}
use Rattle.sound_laws.proofs.Joined.{gap-child, gap-reached, gap-next, gap-sibling}
use Rattle.sound_laws.proofs.Routing.{route-follows}
use Rattle.sound_laws.proofs.Listed.{AllGood, orderly-good, child-children, reached-listed, listed-reached, listed-leaf}

-- an inner node's level is one more than another's
above-zero : (n : ℕ) → 0 < n → (d : ℕ) × (n ≡ suc d)
above-zero zero h = absurd (omega arith)
above-zero (suc d) h = (d, refl)

module _ (v : View) (o : Orderly v) where
  abbrev w : AllGood v
  w = orderly-good v o

  good-of : {n : ℕ} → Reached v n → Good v n
  good-of r = each-mem (Good v) o.good (reached-listed v w r)

  -- ---- one node

  record InnerFacts (p : ℕ) : Type 0 where
    pub d : ℕ
    pub level : (v.node p).level ≡ suc d
    pub facts : Inner v d p

  inner-facts : {p : ℕ} → Reached v p → 0 < (v.node p).level → InnerFacts p
  inner-facts {p} r l = let u = above-zero (v.node p).level l in record { d = u.0; level = u.1; facts = inner v u.0 p (good-of r) u.1 }

  named-slot : {p : ℕ} {s : Slot} (r : Reached v p) (l : 0 < (v.node p).level) → Memᴰ s (kept v p) → Named v (inner-facts r l).d s
  named-slot r l m = each-mem (Named v (inner-facts r l).d) (inner-facts r l).facts.names m

  child-level : {p c : ℕ} → Reached v p → Child v p c → suc (v.node c).level ≡ (v.node p).level
  child-level {p} r (left-child l) = let f = inner-facts r l in let a = f.facts.left_level in let b = f.level in omega arith
  child-level {p} r (slot-child l m k) = let f = inner-facts r l in let a =
      (named-slot r l (kept-in v m k)).level in let b = f.level in omega arith

  child-number : {p c : ℕ} → Reached v p → Child v p c → (1 ≤ c) × (c ≤ v.nodes)
  child-number {p} {c} r k =
      let f = inner-facts r (child-inner v k) in
      (range-iff v.nodes c).0
      (each-mem (λ (n : ℕ). in_range v.nodes n ≡ true)
      ((all-each (in_range v.nodes) (children v p)).0 f.facts.range) (child-children v w k))

  keys-above : {n : ℕ} {s : Slot} → Reached v n → 0 < (v.node n).level → Memᴰ s (kept v n) → (v.node n).fence < s.key
  keys-above {n} r l m = let u =
      above-zero (v.node n).level l in each-mem (λ (s : Slot). suc (v.node n).fence ≤ s.key)
      (rising-from (suc (v.node n).fence) (kept v n) (inner-rises v u.0 n (good-of r) u.1)) m

  -- two nodes of one row
  record Together (m n : ℕ) : Type 0 where
    pub level : ℕ
    pub row : List ℕ
    pub is-row : Row v level row
    pub one : Memᴰ m row
    pub other : Memᴰ n row

  -- reached nodes on one level stand in one row
  together : {m n : ℕ} → Reached v m → Reached v n → (v.node m).level ≡ (v.node n).level → Together m n
  together {m} {n} rm rn e =
      let a = reached-row v m o (reached-listed v w rm) in
      let b = reached-row v n o (reached-listed v w rn) in
      record {
        level = (v.node m).level;
        row = row_at v (v.node m).level;
        is-row = (level-at v (v.node m).level o a.level).row;
        one = a.row;
        other = subst (λ (d : ℕ). Memᴰ n (row_at v d)) (sym e) b.row;
      }

  siblings : {n : ℕ} → Reached v n → (v.node n).sibling ≢ 0 → SibFacts v n
  siblings {n} r z = sib-facts v n (good-of r) z

  pub order-joined : Joined v
  order-joined =
      record {
        child-level = child-level;
        child-number = child-number;
        left-fence = λ r l. (inner-facts r l).facts.left_fence;
        slot-fence = λ r l m k. (named-slot r l (kept-in v m k)).fence;
        keys-rise = λ {n} r. rise-from-rising (v.node n).fence (kept v n) (kept-rises v n (good-of r));
        keys-above = keys-above;
        apart = λ {m} {n} a b e f. let t = together a b e in row-apart v m n t.row (ascending v t.level t.row t.is-row) t.one t.other f;
        sibling-level = λ r z. (siblings r z).level;
        sibling-right = λ r z. (siblings r z).fence;
        sibling-next = λ a b e f. let t = together a b e in row-next v t.level t.row t.is-row t.one t.other f;
      }

  abbrev j : Joined v
  j = order-joined

  leaf-left : {n : ℕ} → Reached v n → (v.node n).level ≡ 0 → (v.node n).left ≡ MARK
  unfolding leaf_ok
  leaf-left {n} r e = (simp decode at (leaf-ok v n (good-of r) e)).0

  words-zero : {n : ℕ} → Reached v n → (v.node n).clear ≡ true
  unfolding node_ok
  words-zero {n} r = (simp and-iff at (good-of r)).0

  -- ---- recording numbers

  recordings : ℕ → List ℕ
  recordings n = map recording (kept v n)

  recordings-once : distinct (flat recordings (leaves v)) ≡ true
  unfolding recordings mapping
  recordings-once = subst (λ (l : List ℕ). distinct l ≡ true) (map-flat recording (kept v) (leaves v))
      ((recordings-iff (mapping v)).0 o.recordings).1

  leaf-once : {n : ℕ} → Reached v n → (v.node n).level ≡ 0 → Each (λ (s : Slot). pair_ok s ≡ true) (kept v n)
      × (distinct (recordings n) ≡ true)
  unfolding recordings
  leaf-once {n} r e = (recordings-iff (kept v n)).0 (leaf-recordings v n o (listed-leaf v o r e))

  recording-once : {m n a b : ℕ} → Reached v m → (v.node m).level ≡ 0 → a < length (kept v m) → Reached v n → (v.node n).level
      ≡ 0 → b < length (kept v n)
      → recording (get_or (kept v m) a (slot 0 0)) ≡ recording (get_or (kept v n) b (slot 0 0)) → (m ≡ n) × (a ≡ b)
  unfolding recordings
  recording-once {m} {n} {a} {b} rm em ha rn en hb e =
      let q = flat-apart recordings (leaves v) recordings-once (listed-leaf v o rm em) (listed-leaf v o rn en)
      (Memᴰ.map recording (get_d-in (slot 0 0) (kept v m) a ha))
      (Memᴰ.cast e (Memᴰ.map recording (get_d-in (slot 0 0) (kept v n) b hb))) in (
        q,
        distinct-once recording (slot 0 0) (kept v m) a b (leaf-once rm em).1 ha (subst (λ (k : ℕ). b < length (kept v k)) (sym q) hb)
            (e ∙ ap (λ (k : ℕ). recording (get_or (kept v k) b (slot 0 0))) (sym q)),
      )

  pair-ok : {n : ℕ} {s : Slot} → Reached v n → (v.node n).level ≡ 0 → Memᴰ s (kept v n) → (recording_ok (recording s) ≡ true)
      × (class_ok (class s) ≡ true)
  pair-ok {n} {s} r e m = (pair-iff s).0 (each-mem (λ (u : Slot). pair_ok u ≡ true) (leaf-once r e).0 m)

  -- ---- what each leftover says

  one-hidden : {q : ℕ} → HiddenOnly v q → OneHidden v q
  one-hidden h = (listed-reached v w h.member, h.here)

  trailing-slots : {a : ℕ} → TrailingOnly v a → TrailingSlots v a
  trailing-slots {a} h = record {
    ignored = ignored v a;
    some-are = longer (λ e. h.here ((kept-whole v a).0 e)) (ap length split ∙ length-append (kept v a) (ignored v a));
    last = split;
    from-b-up = λ {s} m. not-true _ ((mem-filter (λ (s : Slot). not (within v a s.key)) s (v.node a).shown).0 m).1;
  }
    where
      split : (v.node a).shown ≡ kept v a ++ ignored v a
      split = shown-split v a (each-mem (Good v) o.good h.member)

      longer : length (kept v a) ≢ length (v.node a).shown → length (v.node a).shown ≡ length (kept v a) + length (ignored v a)
          → 0 < length (ignored v a)
      longer n e = omega arith

  -- a sibling that is missing is lost in the row of p
  record LostIn (p a : ℕ) : Type 0 where
    pub parent : Reached v p
    pub inner : 0 < (v.node p).level
    pub next : ℕ
    pub lost : Lost v (named v p) (next_child v p) a next

  lost-in : {p a : ℕ} → MissingOnly v p a → LostIn p a
  lost-in {p} g = record
      { parent = listed-reached v w g.member; inner = let z = g.here.0 in omega arith; next = _; lost = gap-lost v (named v p) g.here.1 }

  -- it is a child of p, so another node
  missing-child : {p a : ℕ} → MissingOnly v p a → Child v p a
  missing-child g = let t = lost-in g in gap-child v j t.parent t.inner t.lost.follows

  parent-other : {p a : ℕ} → MissingOnly v p a → p ≢ a
  parent-other g q = let e = ap (level_of v) q in let h = child-level (lost-in g).parent (missing-child g) in omega arith

  lacks-slot : {p a : ℕ} → MissingOnly v p a → kept v p ≡ (v.node p).shown → room v p ≡ true → LacksSlot v p a
  unfolding room
  lacks-slot {p} {a} g plain fits =
      record {
        a-reached = ra;
        b-there = stray.there;
        b-only = λ r q. sibling-same v j r ra stray.there q;
        b-lacks = λ r k. stray.alone r k;
        parent = (t.parent, missing-child g);
        routes = routes;
        room-left = leb-true (length (v.node p).shown) 10 fits;
        above-a = stray.above;
        below-next = λ z. j.sibling-right (by-sibling ra stray.there) z;
      }
    where
      t : LostIn p a
      t = lost-in g

      ra : Reached v a
      ra = gap-reached v j t.parent t.inner t.lost.follows

      stray : Stray v a t.next (v.node a).sibling
      stray = gap-sibling v j t.parent t.inner t.lost.follows ra refl (omega arith)
          (λ z. (gap-next v j t.parent t.inner t.lost.follows z).2) t.lost.other

      routes : down v p (v.node (v.node a).sibling).fence ≡ a
      routes =
          let k = (v.node (v.node a).sibling).fence in
          let above = stray.above in
          ap (route k (v.node p).left) (sym plain)
          ∙ route-follows v k (v.node p).left (kept v p) (named-ascend v j t.parent t.inner)
          (mem-each (λ (s : Slot). (v.node s.pointer).fence ≡ s.key) (kept v p) (λ s m. (named-slot t.parent t.inner m).fence))
          (mem-each (λ (s : Slot). s.pointer ≢ 0) (kept v p)
          (λ s m q. let h = child-number t.parent (kept-child v p t.inner m) in omega arith))
          t.lost.follows (omega arith) stray.below

  -- ---- the leftover, and settled but for it

  pub is-left : (x : Leftover) → Left v x → has_room v x ≡ true → IsLeft v x
  is-left nothing l f = tt
  is-left (hidden_in q) l f = one-hidden l.0
  is-left (missing_in p a true) l f = (lacks-slot l.2 (keeps-else v l.2.member l.1 (parent-other l.2)) f, trailing-slots l.1)
  is-left (missing_in p a false) l f = lacks-slot l.2 (keeps-all v l.2.member l.1) f
  is-left (both_in p a) l f = (lacks-slot l.2 (keeps-all v l.2.member l.1) f, one-hidden l.0)

  module _ (x : Leftover) (l : Left v x) where
    one-parent : {c : ℕ} → Reached v c → c ≢ v.root → (Lacks v x c → ⊥) → (p : ℕ) × Reached v p × Child v p c
        × ((q : ℕ) → Reached v q → Child v q c → q ≡ p)
    one-parent {c} r z n = go (Memᴰ.cases_cons (rw (reached-children v o) at (reached-listed v w r)))
      where
        Parent : Type 0
        Parent = (p : ℕ) × Reached v p × Child v p c × ((q : ℕ) → Reached v q → Child v q c → q ≡ p)

        in-row : (p : ℕ) → Reached v p → 0 < (v.node p).level → Memᴰ c (named v p)
            ⊎ ((a : ℕ) × (e : ℕ) × Lost v (named v p) (next_child v p) a e × (c ≡ (v.node a).sibling)) → Parent
        in-row p rp i (inl m) = let k = named-child v p i m in (p, rp, k, λ q rq h. parent-same v j rp k rq h)
        in-row p rp i (inr u) = absurd (n (subst (Lacks v x) (sym u.3) (lost-lacks v (reached-listed v w rp) i u.2 x l)))

        at-level : (p d : ℕ) → Reached v p → (v.node p).level ≡ d → Memᴰ c (children v p) → Parent
        at-level p zero rp e m = absurd (Memᴰ.not-nil (rw (no-children v p e) at m))
        at-level p (suc d) rp e m =
            in-row p rp (omega arith) (in-fill v (next_child v p) (named v p) (subst (Memᴰ c) (children-inner v d p e) m))

        go : (c ≡ v.root) ⊎ Memᴰ c (flat (children v) (reached v)) → Parent
        go (inl e) = absurd (z e)
        go (inr m) = let u = (mem-flat (children v) c (reached v)).0 m in at-level u.0 (v.node u.0).level (listed-reached v w u.1) refl u.2

    pub settled-but : SettledBut v x
    settled-but =
        record {
          root-fence = o.top.fence;
          root-sibling = o.top.sibling;
          root-level = o.top.level;
          child-level = child-level;
          child-number = child-number;
          sibling-number = λ r z. ((range-iff _ _).0 (siblings r z).range).1;
          one-parent = one-parent;
          left-fence = j.left-fence;
          slot-fence = j.slot-fence;
          words-zero = words-zero;
          leaf-left = leaf-left;
          keys-rise = j.keys-rise;
          keys-from = λ {n} {s} r m. each-mem (λ (u : Slot). (v.node n).fence ≤ u.key) (kept-from v n (good-of r)) m;
          keys-above = keys-above;
          keys-below = λ r z. sym (keys-below v (reached-listed v w r) x l z);
          fences-differ = j.apart;
          sibling-level = j.sibling-level;
          sibling-right = j.sibling-right;
          sibling-next = j.sibling-next;
          recording-once = recording-once;
          recording-number = λ r e m. (recording-iff _).0 (pair-ok r e m).0;
          class-number = λ r e m. (class-iff _).0 (pair-ok r e m).1;
          none-hidden = λ r z. none-hidden v (reached-listed v w r) x l z;
        }
