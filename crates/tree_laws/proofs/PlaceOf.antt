-- The leaf for a key and the key's place in it: what insertion and deletion change of the map.
use Rattle.std.proofs.Common.{◌≡◌, ℕ, suc, ◌<◌, ◌≤◌, true, false, ◌≢◌, List, ◌∷◌, ◌++◌, length, drop, sym, refl, ap, ◌∙◌, ⊎_elim}
use Rattle.std.proofs.Common.{append_assoc, arith, length-drop}
use mathlib.Core.List.{Memᴰ}
use mathlib.Core.Option.{some}
use Rattle.model.specs.Slots.{Slot, slot, View, height}
use Rattle.model.specs.Search.{within, first_with}
use Rattle.model.specs.Reached.{flat, kept, reached, leaves, mapping}
use Rattle.model.specs.SoundTest.{rising}
use Rattle.model.specs.Shifts.{place_of}
use Rattle.model.specs.Writes.{standing_in}
use Rattle.list_laws.proofs.Tools.{Each, Each-map, Each-append, Each-split, Misses}
use Rattle.list_laws.proofs.Members.{each-mem, each-take, each-drop}
use Rattle.tree_laws.proofs.Rows.{Good}
use Rattle.tree_laws.proofs.Cover.{cover, below-past}
use Rattle.tree_laws.proofs.Levels.{Orderly, row_at, row-leaves, mem-leaves}
use Rattle.tree_laws.proofs.Rising.{lower, upper, lower-upper, lower-below, upper-from, upper-above, upper-first, rising-insert}
use Rattle.tree_laws.proofs.Rising.{rising-weaken, rising-from, Apart, rising-apart, rising-join, rising-raise, rising-cons, first-mem}
use Rattle.tree_laws.proofs.Kept.{kept-rises, kept-within}
use Rattle.tree_laws.proofs.MapLaw.{map-rising, leaf-part}
use Rattle.tree_laws.proofs.SearchLaw.{path-at, leaf_for, leaf-mem, leaf-covers}
use Rattle.tree_laws.proofs.Leftovers.{SettledTree, settled-node}

-- ---- the path in a settled tree

-- on level l a search for k stands on the node of that row which covers k
pub standing-at : (v : View) (l k : ℕ) → Orderly v → l ≤ height v → standing_in v l k ≡ cover v k (row_at v l)
unfolding standing_in
standing-at v l k o h = path-at v k l o h

-- on level 0 a search for k stands on the leaf for k
pub standing-leaf : (v : View) (k : ℕ) → Orderly v → standing_in v 0 k ≡ leaf_for v k
standing-leaf v k o = standing-at v 0 k o (omega arith) ∙ ap (cover v k) (row-leaves v)

-- ---- the leaf

-- the leaf for k, its slots ss, and the map on both sides of k's place among them
pub record Place (v : View) (k : ℕ) (ss : List Slot) : Type 0 where
  pub leaf : Memᴰ (leaf_for v k) (leaves v)
  pub reached : Memᴰ (leaf_for v k) (reached v)
  pub level : (v.node (leaf_for v k)).level ≡ 0
  pub good : Good v (leaf_for v k)
  pub fence : (v.node (leaf_for v k)).fence ≤ k
  pub inside : within v (leaf_for v k) k ≡ true
  pub slots : kept v (leaf_for v k) ≡ ss
  pub rises : rising (v.node (leaf_for v k)).fence ss ≡ true
  pub within : Each (λ (s : Slot). within v (leaf_for v k) s.key ≡ true) ss
  -- the leaves on both sides
  pub left : List ℕ
  pub right : List ℕ
  pub row : leaves v ≡ left ++ leaf_for v k ∷ right
  pub not-left : Each (λ (n : ℕ). n ≢ leaf_for v k) left
  pub not-right : Each (λ (n : ℕ). n ≢ leaf_for v k) right
  -- the map below k, and from k up
  pub map : mapping v ≡ (flat (kept v) left ++ lower k ss) ++ (upper k ss ++ flat (kept v) right)
  pub low : Each (λ (s : Slot). s.key < k) (flat (kept v) left ++ lower k ss)
  pub high : Each (λ (s : Slot). k ≤ s.key) (upper k ss ++ flat (kept v) right)
  -- the map's keys on the right are above k
  pub beyond : Each (λ (s : Slot). k < s.key) (flat (kept v) right)

around : (a l u b : List Slot) → a ++ ((l ++ u) ++ b) ≡ (a ++ l) ++ (u ++ b)
around a l u b = simp append_assoc

pub place-orderly : (v : View) (k : ℕ) → Orderly v → Place v k (kept v (leaf_for v k))
place-orderly v k o =
    let x = leaf_for v k in
    let m = leaf-mem v k o in
    let c = leaf-covers v k o in
    let p = leaf-part v x o m in
    let ss = kept v x in
    let r = kept-rises v x c.good in
    let a = flat (kept v) p.left in
    let b = flat (kept v) p.right in
    let over : Each (λ (s : Slot). k < s.key) b =
    Each-map (λ (s : Slot). within v x s.key ≡ false) (λ (s : Slot). k < s.key) b
    (λ s h. below-past v k (v.node x).sibling s.key c.inside h) p.high in
    record {
      leaf = m;
      reached = ((mem-leaves v x o).0 m).0;
      level = c.at.level;
      good = c.good;
      fence = c.fence;
      inside = c.inside;
      slots = refl;
      rises = r;
      within = kept-within v x;
      left = p.left;
      right = p.right;
      row = p.shape;
      not-left = p.not-left;
      not-right = p.not-right;
      map = p.parts ∙ ap (λ (l : List Slot). a ++ (l ++ b)) (lower-upper k ss) ∙ around a (lower k ss) (upper k ss) b;
      low = Each-append (λ (s : Slot). s.key < k) a (lower k ss)
          (Each-map (λ (s : Slot). s.key < (v.node x).fence) (λ (s : Slot). s.key < k) a (λ s h. omega (arith, c.fence)) p.low)
          (lower-below k ss);
      high = Each-append (λ (s : Slot). k ≤ s.key) (upper k ss) b (upper-from (v.node x).fence k ss r)
          (Each-map (λ (s : Slot). k < s.key) (λ (s : Slot). k ≤ s.key) b (λ s h. omega arith) over);
      beyond = over;
    }

-- in a settled tree the leaf's slots are those it shows
pub place-of : (v : View) (k : ℕ) → SettledTree v → Place v k (v.node (leaf_for v k)).shown
place-of v k s =
    let p = place-orderly v k s.orderly in
    rw (settled-node v (leaf_for v k) s p.reached).keeps at p

-- ---- a key that is not in the map

-- with (k, x) put in, the leaf's keys and the map's still rise, and the leaf's stay within its range
pub record InsertPlace (v : View) (k x : ℕ) (ss : List Slot) (left right : List ℕ) : Type 0 where
  pub misses : Misses k ss
  pub above : Each (λ (s : Slot). k < s.key) (upper k ss ++ flat (kept v) right)
  pub rises : rising (v.node (leaf_for v k)).fence (lower k ss ++ slot k x ∷ upper k ss) ≡ true
  pub within : Each (λ (s : Slot). within v (leaf_for v k) s.key ≡ true) (lower k ss ++ slot k x ∷ upper k ss)
  pub map-rises : rising 0 ((flat (kept v) left ++ lower k ss) ++ slot k x ∷ (upper k ss ++ flat (kept v) right)) ≡ true

rising-put : (k x : ℕ) (a b : List Slot) → Apart 0 a b → Each (λ (s : Slot). s.key < k) a → Each (λ (s : Slot). k < s.key) b
    → rising 0 (a ++ slot k x ∷ b) ≡ true
rising-put k x a b r l h =
    rising-join 0 k a (slot k x ∷ b) (omega arith) r.left l
    ((rising-cons k (slot k x) b).1 (omega arith, rising-raise 0 (suc k) b r.right h))

-- if the map lacks k, its leaf does, and the keys of leaf and map still rise with (k, x) put in at its place
pub place-absent : (v : View) (k x : ℕ) (ss : List Slot) → Orderly v → (p : Place v k ss) → Misses k (mapping v)
    → InsertPlace v k x ss p.left p.right
place-absent v k x ss o p e =
    let a = flat (kept v) p.left ++ lower k ss in
    let b = upper k ss ++ flat (kept v) p.right in
    let mi = Each-split (λ (s : Slot). s.key ≡ k → ⊥) a b (rw p.map at e) in
    let m : Misses k ss = rw (← lower-upper k ss) at
    (Each-append (λ (s : Slot). s.key ≡ k → ⊥) (lower k ss) (upper k ss)
    (Each-split (λ (s : Slot). s.key ≡ k → ⊥) (flat (kept v) p.left) (lower k ss) mi.0).1
    (Each-split (λ (s : Slot). s.key ≡ k → ⊥) (upper k ss) (flat (kept v) p.right) mi.1).0) in
    let f = (v.node (leaf_for v k)).fence in
    let w : Slot → Type 0 = λ (s : Slot). within v (leaf_for v k) s.key ≡ true in
    let above : Each (λ (s : Slot). k < s.key) b =
    Each-append (λ (s : Slot). k < s.key) (upper k ss) (flat (kept v) p.right) (upper-above f k ss p.rises m) p.beyond in
    let r = rising-apart 0 a b (ap (rising 0) (sym p.map) ∙ map-rising v o) in
    record {
      misses = m;
      above = above;
      rises = rising-insert f k x ss p.rises p.fence m;
      within = Each-append w (lower k ss) (slot k x ∷ upper k ss) (each-take w (place_of k ss) ss p.within)
          (p.inside, each-drop w (place_of k ss) ss p.within);
      map-rises = rising-put k x a b r p.low above;
    }

-- ---- a key that is in the map

-- its slot is the first from its place on; without it, the leaf's keys and the map's still rise
pub record DeletePlace (v : View) (k x : ℕ) (ss : List Slot) (left right : List ℕ) : Type 0 where
  pub slot-at : ss ≡ lower k ss ++ slot k x ∷ drop (suc (place_of k ss)) ss
  pub in-use : place_of k ss < length ss
  pub map : mapping v ≡ (flat (kept v) left ++ lower k ss) ++ slot k x ∷ (drop (suc (place_of k ss)) ss ++ flat (kept v) right)
  pub above : Each (λ (s : Slot). k < s.key) (drop (suc (place_of k ss)) ss ++ flat (kept v) right)
  pub rises : rising (v.node (leaf_for v k)).fence (lower k ss ++ drop (suc (place_of k ss)) ss) ≡ true
  pub within : Each (λ (s : Slot). within v (leaf_for v k) s.key ≡ true) (lower k ss ++ drop (suc (place_of k ss)) ss)
  pub map-rises : rising 0 ((flat (kept v) left ++ lower k ss) ++ (drop (suc (place_of k ss)) ss ++ flat (kept v) right)) ≡ true

-- if the map has (k, x), it stands at its place in its leaf, and the keys of leaf and map still rise without it
pub place-found : (v : View) (k x : ℕ) (ss : List Slot) → Orderly v → (p : Place v k ss) → first_with k (mapping v) ≡ some (slot k x)
    → DeletePlace v k x ss p.left p.right
place-found v k x ss o p e =
    let a = flat (kept v) p.left ++ lower k ss in
    let c = flat (kept v) p.right in
    let q = place_of k ss in
    let tl = drop (suc q) ss in
    let f = (v.node (leaf_for v k)).fence in
    let w : Slot → Type 0 = λ (s : Slot). within v (leaf_for v k) s.key ≡ true in
    let m : Memᴰ (slot k x) (a ++ (upper k ss ++ c)) = rw p.map at (first-mem k (slot k x) (mapping v) e).0 in
    let mu : Memᴰ (slot k x) (upper k ss) = ⊎_elim (λ h. absurd (omega (arith, each-mem (λ (s : Slot). s.key < k) p.low h)))
    (λ h. ⊎_elim (λ t. t) (λ t. absurd (omega (arith, each-mem (λ (s : Slot). k < s.key) p.beyond t)))
    (mathlib.Core.List.Memᴰ.append_cases {a = slot k x} (upper k ss) h)) (mathlib.Core.List.Memᴰ.append_cases {a = slot k x} a m) in
    let u : upper k ss ≡ slot k x ∷ tl =
    upper-first f k x ss p.rises (rw (← lower-upper k ss) at (mathlib.Core.List.Memᴰ.append_right (lower k ss) mu)) in
    let map : mapping v ≡ a ++ slot k x ∷ (tl ++ c) = p.map ∙ ap (λ (l : List Slot). a ++ (l ++ c)) u in
    let ra = rising-apart 0 a (slot k x ∷ (tl ++ c)) (ap (rising 0) (sym map) ∙ map-rising v o) in
    let rr : rising (suc k) (tl ++ c) ≡ true = ((rising-cons 0 (slot k x) (tl ++ c)).0 ra.right).1 in
    let rt : rising k tl ≡ true = rising-weaken k (suc k) tl (omega arith) (rising-apart (suc k) tl c rr).left in
    let rl = (rising-apart f (lower k ss) (upper k ss) (ap (rising f) (sym (lower-upper k ss)) ∙ p.rises)).left in
    record {
      slot-at = lower-upper k ss ∙ ap (λ (l : List Slot). lower k ss ++ l) u;
      in-use = omega (arith, length-drop q ss, ap length u);
      map = map;
      above = rising-from (suc k) (tl ++ c) rr;
      rises = rising-join f k (lower k ss) tl p.fence rl (lower-below k ss) rt;
      within = Each-append w (lower k ss) tl (each-take w q ss p.within) (each-drop w (suc q) ss p.within);
      map-rises = rising-join 0 k a (tl ++ c) (omega arith) ra.left p.low (rising-weaken k (suc k) (tl ++ c) (omega arith) rr);
    }
