-- From the sentences of "Sound tables" to the test: every reached node is good, none is listed twice, and what is unfinished is the
-- leftover.
use Rattle.std.proofs.Common.{◌≡◌, ℕ, zero, suc, ◌<◌, ◌≤◌, Bool, true, false, eqb, ◌≢◌, ◌⊎◌, List, [], ◌∷◌, map, length, sym, refl, ap, ◌∙◌}
use Rattle.std.proofs.Common.{subst, inl, inr, arith, length-append, lt-ltb, eq-eqb, ne_eqb}
use mathlib.Core.List.Memᴰ
use mathlib.Core.List.{Memᴰ}
use mathlib.Core.Option.{some}
use Rattle.model.specs.Table.{in_range}
use Rattle.model.specs.Slots.{Slot, slot, View, height, recording, class}
use Rattle.model.specs.Search.{within}
use Rattle.model.specs.Reached.{kept, named, next_child, fill_row, children, reached, leaves, mapping}
use Rattle.model.specs.SoundTest.{all, distinct, sibling_ok, come_first, keys_ok, linked, child_ok, slot_ok, leaf_ok, inner_ok, node_ok}
use Rattle.model.specs.SoundTest.{pair_ok, recordings_ok, orderly, Leftover, nothing, hidden_in, missing_in, both_in, leftover, room}
use Rattle.model.specs.SoundTest.{has_room}
use Rattle.model.specs.Sound.{Reached, at-root, by-sibling, Child, left-child, Lacks, Trails, Hides, SettledBut, OneHidden, LacksSlot}
use Rattle.model.specs.Sound.{TrailingSlots, IsLeft}
use Rattle.view_laws.proofs.NodeViews.{level_of, fence_of}
use Rattle.list_laws.proofs.Tools.{and-iff, leb-iff, same-or-not, Each, Each-map, all-each}
use Rattle.list_laws.proofs.Members.{mem-each, index-of, map-flat}
use Rattle.list_laws.proofs.Distinct.{distinct-flat, once-distinct}
use Rattle.list_laws.proofs.Recordings.{recording-iff, class-iff, pair-iff, recordings-iff}
use Rattle.tree_laws.proofs.Rows.{Good, range-iff, no-children, children-inner}
use Rattle.tree_laws.proofs.Levels.{RootFacts, orderly-iff, row-distinct}
use Rattle.tree_laws.proofs.Rising.{rising-from-rise}
use Rattle.tree_laws.proofs.Kept.{kept-within, first-part, each-first}
use Rattle.tree_laws.proofs.Leftovers.{names-linked, NoneMissing, HiddenOnly, TrailingOnly, MissingOnly, Left, leftover-iff}
use Rattle.sound_laws.proofs.Neighbours.{Follows, in-follows, Lost, in-fill, linked-fill, lost-linked, lost-gap}
use Rattle.sound_laws.proofs.Leftovers.{lacks-or, MissingAt, Shortage, shortage, shortage-same}
use Rattle.sound_laws.proofs.Joined.{Joined, Stray, in-kept, kept-child, child-named, named-child, child-inner, child-reached, parent-same}
use Rattle.sound_laws.proofs.Joined.{named-ascend, reached-level, gap-child, gap-parent, gap-reached, gap-next, gap-sibling}
use Rattle.sound_laws.proofs.Listed.{rows-all, AllGood, listed-reached, reached-listed, listed-distinct, leaf-listed, leaves-distinct}
use Rattle.sound_laws.proofs.Listed.{mapped}

positive : {n : ℕ} → n ≢ 0 → 1 ≤ n
positive z = omega arith

module _ (v : View) (x : Leftover) (s : SettledBut v x) (i : IsLeft v x) where
  pub settled-joined : Joined v
  settled-joined = record {
    child-level = s.child-level;
    child-number = s.child-number;
    left-fence = s.left-fence;
    slot-fence = s.slot-fence;
    keys-rise = s.keys-rise;
    keys-above = s.keys-above;
    apart = s.fences-differ;
    sibling-level = s.sibling-level;
    sibling-right = s.sibling-right;
    sibling-next = s.sibling-next;
  }

  abbrev j : Joined v
  j = settled-joined

  -- ---- a named child whose sibling is not the next one is A, and its sibling is B

  stray-lacks : {a c b : ℕ} → Stray v a c b → Reached v b → b ≢ v.root → Lacks v x b
  stray-lacks {a} {c} {b} t r z = go (lacks-or v x b)
    where
      go : Lacks v x b ⊎ (Lacks v x b → ⊥) → Lacks v x b
      go (inl l) = l
      go (inr n) = let u = s.one-parent r z n in absurd (t.alone u.1 u.2)

  module _ {p a c : ℕ} (r : Reached v p) (l : 0 < (v.node p).level) (o : Lost v (named v p) (next_child v p) a c) where
    lost-stray : Stray v a c (v.node a).sibling
    lost-stray = gap-sibling v j r l o.follows (gap-reached v j r l o.follows) refl (omega arith)
        (λ z. (gap-next v j r l o.follows z).2) o.other

    lost-reached : Reached v (v.node a).sibling
    lost-reached = by-sibling (gap-reached v j r l o.follows) lost-stray.there

    not-root : {b : ℕ} → (v.node b).level ≡ (v.node a).level → b ≢ v.root
    not-root e q =
        let h = reached-level v j r in
        let k = j.child-level r (gap-child v j r l o.follows) in
        let w = ap (level_of v) q in
        omega arith

    sibling-at : (v.node (v.node a).sibling).level ≡ (v.node a).level
    sibling-at = j.sibling-level (gap-reached v j r l o.follows) lost-stray.there

    pub lost-shortage : Shortage v x (v.node a).sibling
    lost-shortage = shortage v x i (stray-lacks lost-stray lost-reached (not-root sibling-at))

    pub lost-a : a ≡ lost-shortage.a
    lost-a = lost-shortage.slot.b-only (gap-reached v j r l o.follows) lost-shortage.is

    pub lost-p : p ≡ lost-shortage.p
    lost-p =
        let w = lost-shortage.slot.parent in
        parent-same v j w.0 (subst (Child v lost-shortage.p) (sym lost-a) w.1) r (gap-child v j r l o.follows)

    pub lost-next : (v.node (v.node a).sibling).sibling ≡ c
    lost-next = go (same-or-not (v.node (v.node a).sibling).sibling c)
      where
        go : ((v.node (v.node a).sibling).sibling ≡ c) ⊎ ((v.node (v.node a).sibling).sibling ≢ c) → (v.node (v.node a).sibling).sibling ≡ c
        go (inl e) = e
        go (inr n) =
            let h = lost-stray.above in
            let t = gap-sibling v j r l o.follows lost-reached sibling-at (omega arith) lost-stray.below n in
            let rb = by-sibling lost-reached t.there in
            let lb = j.sibling-level lost-reached t.there in
            let u = shortage v x i (stray-lacks t rb (not-root (lb ∙ sibling-at))) in
            let e = ap (fence_of v) (shortage-same v x u lost-shortage) in
            let f = j.sibling-right lost-reached t.there in
            absurd (omega arith)

    pub lost-at : MissingAt x p a
    lost-at = subst (λ (q : ℕ). MissingAt x q a) (sym lost-p) (subst (MissingAt x lost-shortage.p) (sym lost-a) lost-shortage.at)

  -- ---- every reached node is good

  abbrev row_of : ℕ → List ℕ
  row_of p = fill_row v (named v p) (next_child v p)

  -- what is listed below a reached node is reached, and in 1 to N
  fill-reached : {p : ℕ} → Reached v p → 0 < (v.node p).level → (c : ℕ) → Memᴰ c (row_of p) → Reached v c × (in_range v.nodes c ≡ true)
  fill-reached {p} r l c m = go (in-fill v (next_child v p) (named v p) m)
    where
      go : Memᴰ c (named v p) ⊎ ((a : ℕ) × (e : ℕ) × Lost v (named v p) (next_child v p) a e × (c ≡ (v.node a).sibling)) → Reached v c
          × (in_range v.nodes c ≡ true)
      go (inl k) = let d = named-child v p l k in let h = j.child-number r d in (child-reached v r d, (range-iff _ _).1 h)
      go (inr u) =
          let z = (lost-stray r l u.2).there in
          let ra = gap-reached v j r l u.2.follows in (
            subst (Reached v) (sym u.3) (by-sibling ra z),
            subst (λ (n : ℕ). in_range v.nodes n ≡ true) (sym u.3) ((range-iff _ _).1 (positive z, s.sibling-number ra z)),
          )

  children-reached : (n c : ℕ) → Reached v n → Memᴰ c (children v n) → Reached v c
  children-reached n c r m = go (v.node n).level refl
    where
      go : (d : ℕ) → (v.node n).level ≡ d → Reached v c
      go zero e = absurd (Memᴰ.not-nil (rw (no-children v n e) at m))
      go (suc d) e = (fill-reached r (omega arith) c (subst (Memᴰ c) (children-inner v d n e) m)).0

  comes-first : {n : ℕ} → Reached v n → come_first (λ (u : Slot). within v n u.key) (v.node n).shown ≡ true
  comes-first {n} r = go x (s.keys-below r) i
    where
      plain : (v.node n).shown ≡ kept v n → come_first (λ (u : Slot). within v n u.key) (v.node n).shown ≡ true
      plain e = subst (λ (us : List Slot). come_first (λ (u : Slot). within v n u.key) us ≡ true) (sym e)
          (each-first _ (kept v n) (kept-within v n))

      trailing : (a : ℕ) → ((n ≡ a → ⊥) → (v.node n).shown ≡ kept v n) → TrailingSlots v a → (n ≡ a) ⊎ (n ≢ a)
          → come_first (λ (u : Slot). within v n u.key) (v.node n).shown ≡ true
      trailing a h t (inl e) = subst (λ (k : ℕ). come_first (λ (u : Slot). within v k u.key) (v.node k).shown ≡ true) (sym e)
          (subst (λ (us : List Slot). come_first (λ (u : Slot). within v a u.key) us ≡ true) (sym t.last)
          (first-part _ (kept v a) t.ignored (kept-within v a)
          (mem-each (λ (u : Slot). within v a u.key ≡ false) t.ignored (λ u m. t.from-b-up m))).1)
      trailing a h t (inr z) = plain (h z)

      go : (y : Leftover) → ((Trails y n → ⊥) → (v.node n).shown ≡ kept v n) → IsLeft v y
          → come_first (λ (u : Slot). within v n u.key) (v.node n).shown ≡ true
      go nothing h y = plain (h (λ t. t))
      go (hidden_in q) h y = plain (h (λ t. t))
      go (missing_in p a true) h y = trailing a h y.1 (same-or-not n a)
      go (missing_in p a false) h y = plain (h (λ t. t))
      go (both_in p a) h y = plain (h (λ t. t))

  keys-ok : {n : ℕ} (low : ℕ) → Reached v n → ((u : Slot) → Memᴰ u (kept v n) → low ≤ u.key) → keys_ok v n low ≡ true
  unfolding keys_ok
  keys-ok {n} low r h =
      (and-iff _ _).1 (rising-from-rise low (kept v n) (s.keys-rise r) (mem-each (λ (u : Slot). low ≤ u.key) (kept v n) h), comes-first r)

  sibling-ok : {n : ℕ} → Reached v n → sibling_ok v n ≡ true
  unfolding sibling_ok
  sibling-ok {n} r = go (same-or-not (v.node n).sibling 0)
    where
      go : ((v.node n).sibling ≡ 0) ⊎ ((v.node n).sibling ≢ 0) → sibling_ok v n ≡ true
      go (inl e) = rw (eq-eqb (v.node n).sibling 0 e, sibling_ok)
      go (inr z) =
          rw (ne_eqb (v.node n).sibling 0 z, sibling_ok)
          ((and-iff _ _).1 (
            (range-iff _ _).1 (positive z, s.sibling-number r z),
            (and-iff _ _).1 (eq-eqb _ _ (s.sibling-level r z), lt-ltb _ _ (s.sibling-right r z)),
          ))

  child-ok : (l k : ℕ) {c : ℕ} → suc (v.node c).level ≡ l → (v.node c).fence ≡ k → child_ok v l k c ≡ true
  unfolding child_ok
  child-ok l k a b = (and-iff _ _).1 (eq-eqb _ _ a, eq-eqb _ _ b)

  slots-ok : {n : ℕ} → Reached v n → 0 < (v.node n).level → all (slot_ok v (v.node n).level) (kept v n) ≡ true
  unfolding slot_ok
  slots-ok {n} r l =
      (all-each (slot_ok v (v.node n).level) (kept v n)).1 (mem-each (λ (u : Slot). slot_ok v (v.node n).level u ≡ true) (kept v n)
      (λ u m. let w = in-kept v n m in child-ok (v.node n).level u.key (s.child-level r (kept-child v n l m)) (s.slot-fence r l w.0 w.1)))

  inner-ok : {n : ℕ} (d : ℕ) → Reached v n → (v.node n).level ≡ suc d → inner_ok v n ≡ true
  unfolding inner_ok
  inner-ok {n} d r e =
      let l : 0 < (v.node n).level = omega arith in
      let q = children-inner v d n e in
      (and-iff _ _).1 (
        keys-ok (suc (v.node n).fence) r (λ u m. s.keys-above r l m),
        (and-iff _ _).1 (
          child-ok (v.node n).level (v.node n).fence (s.child-level r (left-child l)) (s.left-fence r l),
          (and-iff _ _).1 (
            slots-ok r l,
            (and-iff _ _).1 (
              (all-each (in_range v.nodes) (children v n)).1
                  (subst (Each (λ (c : ℕ). in_range v.nodes c ≡ true)) (sym q)
                  (mem-each (λ (c : ℕ). in_range v.nodes c ≡ true) (row_of n) (λ c m. (fill-reached r l c m).1))),
              subst (λ (ks : List ℕ). linked v ks (next_child v n) ≡ true) (sym q)
                  (linked-fill v (next_child v n) (named v n) (λ a c o. lost-next r l o)),
            ),
          ),
        ),
      )

  leaf-ok : {n : ℕ} → Reached v n → (v.node n).level ≡ 0 → leaf_ok v n ≡ true
  unfolding leaf_ok
  leaf-ok {n} r e = (and-iff _ _).1 (eq-eqb _ _ (s.leaf-left r e), keys-ok (v.node n).fence r (λ u m. s.keys-from r m))

  pub node-ok : {n : ℕ} → Reached v n → Good v n
  unfolding node_ok
  node-ok {n} r = (and-iff _ _).1 (s.words-zero r, (and-iff _ _).1 (sibling-ok r, go (v.node n).level refl))
    where
      go : (d : ℕ) → (v.node n).level ≡ d
          → elim (eqb (v.node n).level 0) as (λ b. Bool) [ true ↦ leaf_ok v n | false ↦ inner_ok v n ] ≡ true
      go zero e = rw (eq-eqb (v.node n).level 0 e) (leaf-ok r e)
      go (suc d) e = rw (ne_eqb (v.node n).level 0 (λ q. omega arith)) (inner-ok d r e)

  module _ (range : in_range v.nodes v.root ≡ true) where
    root-facts : RootFacts v
    root-facts = record { range = range; level = s.root-level; fence = s.root-fence; sibling = s.root-sibling }

    pub all-good : AllGood v
    all-good = record {
      top = root-facts;
      good = Each-map (Reached v) (Good v) (reached v) (λ n r. node-ok r)
          (rows-all v (Reached v) children-reached (height v) (v.root ∷ []) (at-root, tt));
    }

    -- ---- recording numbers

    recordings : ℕ → List ℕ
    recordings n = map recording (kept v n)

    leaf-once : (n : ℕ) → Memᴰ n (leaves v) → distinct (recordings n) ≡ true
    unfolding recordings
    leaf-once n m = let u =
        leaf-listed v all-good m in once-distinct recording (slot 0 0) (kept v n) (λ a b h k e. (s.recording-once u.0 u.1 h u.0 u.1 k e).1)

    leaves-once : (m n c : ℕ) → Memᴰ m (leaves v) → Memᴰ n (leaves v) → Memᴰ c (recordings m) → Memᴰ c (recordings n) → m ≡ n
    unfolding recordings
    leaves-once m n c a b h k =
        let ra = leaf-listed v all-good a in
        let rb = leaf-listed v all-good b in
        let u = Memᴰ.of_map recording (kept v m) h in
        let w = Memᴰ.of_map recording (kept v n) k in
        let f = index-of (slot 0 0) u.1 in
        let g = index-of (slot 0 0) w.1 in
        (s.recording-once ra.0 ra.1 f.1 rb.0 rb.1 g.1 (ap recording (sym f.2) ∙ u.2 ∙ sym w.2 ∙ ap recording g.2)).0

    recordings-ok : recordings_ok (mapping v) ≡ true
    unfolding recordings mapping
    recordings-ok =
        (recordings-iff (mapping v)).1 (
          mem-each (λ (u : Slot). pair_ok u ≡ true) (mapping v) (λ u m.
              let w = mapped v all-good m in
              (pair-iff u).1 (
                (recording-iff (recording u)).1 (s.recording-number w.1 w.2 w.3),
                (class-iff (class u)).1 (s.class-number w.1 w.2 w.3),
              )),
          subst (λ (l : List ℕ). distinct l ≡ true) (sym (map-flat recording (kept v) (leaves v)))
              (distinct-flat recordings (leaves v) (leaves-distinct v all-good) leaf-once leaves-once),
        )

    pub orderly-ok : orderly v ≡ true
    orderly-ok = (orderly-iff v).1
        (record { top = root-facts; good = all-good.good; once = listed-distinct v all-good; recordings = recordings-ok })

    -- ---- what is unfinished

    listed : (P : ℕ → Type 0) → ((n : ℕ) → Reached v n → P n) → Each P (reached v)
    listed P h = mem-each P (reached v) (λ n m. h n (listed-reached v all-good m))

    hidden-only : {q : ℕ} → OneHidden v q → ((n : ℕ) → Reached v n → n ≢ q → (v.node n).hidden ≡ 0) → HiddenOnly v q
    hidden-only {q} o h =
        record { member = reached-listed v all-good o.0; here = o.1; others = listed (λ (n : ℕ). n ≢ q → (v.node n).hidden ≡ 0) h }

    trailing-only : {a : ℕ} → Reached v a → TrailingSlots v a
        → ((n : ℕ) → Reached v n → n ≢ a → kept v n ≡ (v.node n).shown) → TrailingOnly v a
    trailing-only {a} r t h =
        record { member = reached-listed v all-good r; here = longer; others = listed (λ (n : ℕ). n ≢ a → kept v n ≡ (v.node n).shown) h }
      where
        longer : kept v a ≢ (v.node a).shown
        longer e = let h = ap length t.last ∙ length-append (kept v a) t.ignored in let k = t.some-are in let q = ap length e in omega arith

    -- no sibling is lost in the row of n
    no-lost : (n : ℕ) → ((a c : ℕ) → Lost v (named v n) (next_child v n) a c → ⊥) → (v.node n).level ≢ 0 → children v n ≡ named v n
    no-lost n h z = (names-linked v n z).1 (lost-linked v (next_child v n) (named v n) h)

    -- what holds of each node q and each b whose sibling is lost in the row of q
    abbrev EachLost : (ℕ → ℕ → Type 0) → Type 0
    EachLost M = (q b c : ℕ) → Reached v q → 0 < (v.node q).level → Lost v (named v q) (next_child v q) b c → M q b

    module _ {p a : ℕ} (k : LacksSlot v p a) (at : EachLost (λ (q b : ℕ). (q ≡ p) × (b ≡ a))) where
      inner-p : 0 < (v.node p).level
      inner-p = child-inner v k.parent.1

      lost-there : (c : ℕ) → Follows (next_child v p) a c (named v p) → (v.node a).sibling ≡ c → ⊥
      lost-there c f q = let u =
          gap-parent v j k.parent.0 inner-p f (λ z. k.b-there (q ∙ z)) in k.b-lacks u.1 (subst (Child v u.0) (sym q) u.2)

      missing-only : MissingOnly v p a
      missing-only =
          let u = in-follows (next_child v p) (child-named v k.parent.1) in
          let d = row-distinct v (named v p) (named-ascend v j k.parent.0 inner-p) in
          record {
            member = reached-listed v all-good k.parent.0;
            here = (
              (λ z. omega (arith, inner-p)),
              lost-gap v (named v p) d (record { follows = u.1; other = lost-there u.0 u.1 })
                  (λ b c o. (at p b c k.parent.0 inner-p o).1),
            );
            others = listed (λ (n : ℕ). n ≢ p → (v.node n).level ≢ 0 → children v n ≡ named v n)
                (λ n r z i. no-lost n (λ b c o. z (at n b c r (positive i) o).0) i);
          }

    none-missing : EachLost (λ (q b : ℕ). ⊥) → NoneMissing v
    none-missing h = listed (λ (n : ℕ). (v.node n).level ≢ 0 → children v n ≡ named v n)
        (λ n r i. no-lost n (λ b c o. h n b c r (positive i) o) i)

    left-is : Left v x
    left-is = go x i (λ n r z. s.none-hidden r z) (λ n r z. sym (s.keys-below r z)) (λ q b c r l o. lost-at r l o)
      where
        go : (y : Leftover) → IsLeft v y → ((n : ℕ) → Reached v n → (Hides y n → ⊥) → (v.node n).hidden ≡ 0)
            → ((n : ℕ) → Reached v n → (Trails y n → ⊥) → kept v n ≡ (v.node n).shown) → EachLost (MissingAt y) → Left v y
        go nothing k h t m = (listed _ (λ n r. h n r (λ z. z)), listed _ (λ n r. t n r (λ z. z)), none-missing m)
        go (hidden_in q) k h t m = (hidden-only k h, listed _ (λ n r. t n r (λ z. z)), none-missing m)
        go (missing_in p a false) k h t m = (listed _ (λ n r. h n r (λ z. z)), listed _ (λ n r. t n r (λ z. z)), missing-only k m)
        go (missing_in p a true) k h t m = (listed _ (λ n r. h n r (λ z. z)), trailing-only k.0.a-reached k.1 t, missing-only k.0 m)
        go (both_in p a) k h t m = (hidden-only k.1 h, listed _ (λ n r. t n r (λ z. z)), missing-only k.0 m)

    pub leftover-is : leftover v ≡ some x
    leftover-is = (leftover-iff v (listed-distinct v all-good) x).1 left-is

    pub has-room : has_room v x ≡ true
    has-room = go x i
      where
        fits : {p a : ℕ} → LacksSlot v p a → room v p ≡ true
        fits {p} {a} k = unfold room in (leb-iff (length (v.node p).shown) 10).1 k.room-left

        go : (y : Leftover) → IsLeft v y → has_room v y ≡ true
        go nothing k = refl
        go (hidden_in q) k = refl
        go (missing_in p a true) k = fits k.0
        go (missing_in p a false) k = fits k
        go (both_in p a) k = fits k.0
