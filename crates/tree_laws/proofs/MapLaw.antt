-- The map of a sound table: keys rise strictly, each key and each recording is there once, and each leaf has the map's part of its range.
use Rattle.std.proofs.Common.{◌≡◌, ℕ, ◌<◌, ◌≤◌, true, false, ◌≢◌, List, [], ◌∷◌, ◌++◌, map, sym, refl, ap, ◌∙◌, append-nil, arith}
use mathlib.Core.List.Memᴰ
use mathlib.Core.List.{Memᴰ}
use Rattle.model.specs.Table.{MARK}
use Rattle.model.specs.Slots.{Slot, View, recording}
use Rattle.model.specs.Search.{within}
use Rattle.model.specs.Reached.{flat, kept, leaves, mapping, pointers}
use Rattle.model.specs.SoundTest.{distinct, rising, pair_ok, recordings_ok}
use Rattle.model.specs.Sound.{Rise}
use Rattle.list_laws.proofs.Tools.{Each, Each-map, Each-append, Each-flat, flat-append}
use Rattle.list_laws.proofs.Members.{each-mem, map-flat}
use Rattle.list_laws.proofs.Distinct.{distinct-part}
use Rattle.list_laws.proofs.Recordings.{recordings-iff, pointers-apart}
use Rattle.tree_laws.proofs.Rows.{Row, not-zero, sib-facts, linked-cons}
use Rattle.tree_laws.proofs.Cover.{below-low}
use Rattle.tree_laws.proofs.Levels.{Orderly, Level, level-leaves, row-tail, head-least, leaf-once}
use Rattle.tree_laws.proofs.Rising.{rising-join, rising-from, rise-from-rising, keys-distinct}
use Rattle.tree_laws.proofs.Kept.{kept-below, kept-rises}

-- ---- the kept slots along a row

-- the kept keys along a row rise strictly from the fence of its first node on
pub row-rises : (v : View) (d n : ℕ) (ns : List ℕ) → Row v d (n ∷ ns) → rising (v.node n).fence (flat (kept v) (n ∷ ns)) ≡ true
unfolding flat
row-rises v d n [] r = rw (append-nil (kept v n)) (kept-rises v n r.good.0)
row-rises v d n (m ∷ ns) r =
    let u = (linked-cons v n (m ∷ ns) 0).0 r.chain in
    let z : (v.node n).sibling ≢ 0 = λ q. not-zero v m r.at.1.0.range (sym u.0 ∙ q) in
    let l : (v.node n).fence < (v.node m).fence = rw u.0 at (sib-facts v n r.good.0 z).fence in
    rising-join (v.node n).fence (v.node m).fence (kept v n) (flat (kept v) (m ∷ ns)) (omega arith) (kept-rises v n r.good.0)
    (rw u.0 at (kept-below v n z)) (row-rises v d m ns (row-tail v d n (m ∷ ns) r))

-- the nodes before x in a row hold keys below x's fence only
row-low : (v : View) (d x : ℕ) (ls rs : List ℕ) → Row v d (ls ++ x ∷ rs) → Each (λ (s : Slot). s.key < (v.node x).fence) (flat (kept v) ls)
unfolding flat
row-low v d x [] rs r = tt
row-low v d x (n ∷ ls) rs r =
    let u = (linked-cons v n (ls ++ x ∷ rs) 0).0 r.chain in
    let t = row-tail v d n (ls ++ x ∷ rs) r in
    let h = head-least v d x (ls ++ x ∷ rs) t (Memᴰ.append_right ls {t = x ∷ rs} (Memᴰ.head refl)) in
    let z : (v.node n).sibling ≢ 0 = λ q. h.0 (sym u.0 ∙ q) in
    let w : (v.node (v.node n).sibling).fence ≤ (v.node x).fence = rw u.0 h.1 in
    Each-append (λ (s : Slot). s.key < (v.node x).fence) (kept v n) (flat (kept v) ls)
    (Each-map (λ (s : Slot). s.key < (v.node (v.node n).sibling).fence) (λ (s : Slot). s.key < (v.node x).fence) (kept v n)
    (λ s q. omega arith) (kept-below v n z)) (row-low v d x ls rs t)

-- those after x hold keys from x's sibling's fence up only
row-high : (v : View) (d x : ℕ) (rs : List ℕ) → Row v d (x ∷ rs) → Each (λ (s : Slot). within v x s.key ≡ false) (flat (kept v) rs)
unfolding flat
row-high v d x [] r = tt
row-high v d x (m ∷ rs) r =
    let u = (linked-cons v x (m ∷ rs) 0).0 r.chain in
    let t = row-tail v d x (m ∷ rs) r in
    let f = row-rises v d m rs t in
    Each-map (λ (s : Slot). (v.node m).fence ≤ s.key) (λ (s : Slot). within v x s.key ≡ false) (flat (kept v) (m ∷ rs))
    (λ s q. rw u.0 (below-low v s.key m (not-zero v m t.at.0.range) q)) (rising-from (v.node m).fence (flat (kept v) (m ∷ rs)) f)

-- ---- the map

-- the keys of an orderly tree's map rise strictly
pub map-rising : (v : View) → Orderly v → rising 0 (mapping v) ≡ true
unfolding mapping flat rising
map-rising v o = let l = level-leaves v o in go (leaves v) l
  where
    go : (ns : List ℕ) → Level v 0 ns → rising 0 (flat (kept v) ns) ≡ true
    go [] l = absurd (l.some refl)
    go (n ∷ ns) l = rw (← l.first) (row-rises v 0 n ns l.row)

pub record MapRises (m : List Slot) : Type 0 where
  pub rising : rising 0 m ≡ true
  pub rise : Rise m
  pub keys-once : distinct (map (λ (s : Slot). s.key) m) ≡ true
  pub recordings-once : distinct (map recording m) ≡ true
  pub pairs-ok : Each (λ (s : Slot). pair_ok s ≡ true) m

-- in an orderly tree's map no key and no recording number is there twice, and each pair is in order
pub map-rises : (v : View) → Orderly v → MapRises (mapping v)
map-rises v o =
    let r = map-rising v o in
    let u = (recordings-iff (mapping v)).0 o.recordings in
    record {
      rising = r;
      rise = rise-from-rising 0 (mapping v) r;
      keys-once = keys-distinct 0 (mapping v) r;
      recordings-once = u.1;
      pairs-ok = u.0;
    }

-- ---- one leaf's part of the map

-- the map around leaf x: below x's fence, x's kept slots, from the sibling's fence up
pub record LeafPart (v : View) (x : ℕ) : Type 0 where
  pub left : List ℕ
  pub right : List ℕ
  pub shape : leaves v ≡ left ++ x ∷ right
  pub not-left : Each (λ (n : ℕ). n ≢ x) left
  pub not-right : Each (λ (n : ℕ). n ≢ x) right
  pub parts : mapping v ≡ flat (kept v) left ++ (kept v x ++ flat (kept v) right)
  pub low : Each (λ (s : Slot). s.key < (v.node x).fence) (flat (kept v) left)
  pub high : Each (λ (s : Slot). within v x s.key ≡ false) (flat (kept v) right)

-- a leaf's recordings are right, and differ
pub leaf-recordings : (v : View) (x : ℕ) → Orderly v → Memᴰ x (leaves v) → recordings_ok (kept v x) ≡ true
unfolding mapping
leaf-recordings v x o m =
    let u = (recordings-iff (mapping v)).0 o.recordings in
    (recordings-iff (kept v x)).1 (
      each-mem (λ (n : ℕ). Each (λ (s : Slot). pair_ok s ≡ true) (kept v n))
          (Each-flat (λ (s : Slot). pair_ok s ≡ true) (kept v) (leaves v) u.0) m,
      distinct-part (λ n. map recording (kept v n)) (leaves v) x (rw (map-flat recording (kept v) (leaves v)) at u.1) m,
    )

-- so its pointers differ, and none is MARK
pub leaf-pointers : (v : View) (x : ℕ) → Orderly v → Memᴰ x (leaves v) → distinct (MARK ∷ pointers (kept v x)) ≡ true
leaf-pointers v x o m = (pointers-apart (kept v x) (leaf-recordings v x o m)).0

-- the last nodes of a row are a row
pub row-rest : (v : View) (d : ℕ) (ls rs : List ℕ) → Row v d (ls ++ rs) → Row v d rs
row-rest v d [] rs r = r
row-rest v d (n ∷ ls) rs r = row-rest v d ls rs (row-tail v d n (ls ++ rs) r)

-- a leaf parts leaves and map: keys left of it are below its fence, none right of it is below its sibling's
pub leaf-part : (v : View) (x : ℕ) → Orderly v → Memᴰ x (leaves v) → LeafPart v x
unfolding mapping flat
leaf-part v x o m =
    let u = leaf-once v x o m in
    let ls = u.before in
    let rs = u.after in
    let r : Row v 0 (ls ++ x ∷ rs) = rw u.shape at (level-leaves v o).row in
    record {
      left = ls;
      right = rs;
      shape = u.shape;
      not-left = u.not-before;
      not-right = u.not-after;
      parts = ap (λ (l : List ℕ). flat (kept v) l) u.shape ∙ flat-append (kept v) ls (x ∷ rs);
      low = row-low v 0 x ls rs r;
      high = row-high v 0 x rs (row-rest v 0 ls (x ∷ rs) r);
    }
