-- A search on a sound table: the nodes it stands on, level by level, and its answer, which is that of a lookup in the map.
use Rattle.std.proofs.Common.{◌≡◌, ℕ, zero, suc, ◌-◌, ◌<◌, ◌≤◌, Bool, true, false, ◌≢◌, ◌↔◌, List, [], ◌∷◌, ◌++◌, length, get_or, sym, refl}
use Rattle.std.proofs.Common.{ap, ◌∙◌, ⊎_elim, arith, le-leb}
use mathlib.Core.Bool.{false≢true}
use mathlib.Core.List.{Memᴰ}
use mathlib.Core.Option.{Option, some}
use Rattle.model.specs.declared.Answer.TheVariants.{Found, Absent, Refused}
use Rattle.model.specs.Slots.{Slot, slot, recording_of, class_of, recording_ok, class_ok, View, height}
use Rattle.model.specs.Search.{below, within, moved, down, locate, path_from, path, first_with, first_above, next_from, answer_of, lookup}
use Rattle.model.specs.Search.{answer_in, search_view, Next}
use Rattle.model.specs.Reached.{flat, head_or, kept, named, next_child, children, leaves_from, reached, leaves, mapping}
use Rattle.model.specs.SoundTest.{sound_view}
use Rattle.model.specs.Demand2.{IsNext}
use Rattle.list_laws.proofs.Tools.{Each, Each-map, Each-flat, Misses, first-l, first-r, first-filter}
use Rattle.list_laws.proofs.Members.{each-mem, each-index}
use Rattle.tree_laws.proofs.Rows.{Good, At, Row, Inner, inners, linked-cons, fill-mem}
use Rattle.tree_laws.proofs.Cover.{cover, cover-in, cover-out, cover-has, cover-mem, cover-fence, cover-child, cover-flat, stays}
use Rattle.tree_laws.proofs.Cover.{below-true, within-up-to, step-down, step-whole, down-named, nexts}
use Rattle.tree_laws.proofs.Levels.{Orderly, sound-orderly, Level, level-lower, level-root, level-at, level-leaves, row_at, row-below}
use Rattle.tree_laws.proofs.Levels.{row-reached, reached-row, row-tail, head-least}
use Rattle.tree_laws.proofs.Rising.{found-iff, found-ok, absent-iff, lookup-answers}
use Rattle.tree_laws.proofs.MapLaw.{map-rising, map-rises, leaf-part}
use Rattle.tree_laws.proofs.NextLaw.{passes-good, next-law, next-least}

-- ---- one level

-- what holds of the node that covers k on level d
pub record Covers (v : View) (k d n : ℕ) : Type 0 where
  pub good : Good v n
  pub at : At v d n
  pub inside : within v n k ≡ true
  pub fence : (v.node n).fence ≤ k

pub covers : (v : View) (k d : ℕ) (ns : List ℕ) → Level v d ns → Covers v k d (cover v k ns)
covers v k d ns l =
    let r = l.row in
    let g = cover-has v k (Good v) ns r.good r.chain l.some in
    let a = cover-has v k (At v d) ns r.at r.chain l.some in
    record { good = g.0; at = a.0; inside = g.1; fence = cover-fence v k ns r.chain l.some (rw l.first (omega arith)) }

-- and of no other node of the row
pub cover-only : (v : View) (k d n : ℕ) (ns : List ℕ) → Row v d ns → Memᴰ n ns → (v.node n).fence ≤ k → within v n k
    ≡ true → cover v k ns ≡ n
cover-only v k d n [] r m f w = absurd (mathlib.Core.List.Memᴰ.not-nil m)
cover-only v k d n (x ∷ xs) r m f w = go (within v x k) refl (λ t. cover-only v k d n xs (row-tail v d x xs r) t f w)
  where
    late : within v x k ≡ true → Memᴰ n xs → ⊥
    late c t =
        let u = (linked-cons v x xs 0).0 r.chain in
        let h = head-least v d n xs (row-tail v d x xs r) t in
        let l : k < (v.node (head_or 0 xs)).fence = below-true v k (head_or 0 xs) h.0 (ap (λ (y : ℕ). below v y k) (sym u.0) ∙ c) in
        omega (arith, h.1)

    go : (b : Bool) → within v x k ≡ b → (Memᴰ n xs → cover v k xs ≡ n) → cover v k (x ∷ xs) ≡ n
    go true c ih = cover-in v k x xs c ∙ ⊎_elim (λ e. sym e) (λ t. absurd (late c t)) (mathlib.Core.List.Memᴰ.cases_cons m)
    go false c ih = cover-out v k x xs c
        ∙ ⊎_elim (λ e. absurd (false≢true (sym c ∙ ap (λ (y : ℕ). within v y k) (sym e) ∙ w))) ih (mathlib.Core.List.Memᴰ.cases_cons m)

-- the step of a search from m, which covers k on level d + 1, to c, which covers k on level d
pub record Step (v : View) (k d m c : ℕ) : Type 0 where
  pub moves : moved v (down v m k) k ≡ c
  pub child : Memᴰ c (children v m)
  pub good : Good v (down v m k)
  pub at : At v d (down v m k)
  -- where m names all its children, no move is needed
  pub straight : children v m ≡ named v m → down v m k ≡ c

pub step : (v : View) (k d : ℕ) (ns : List ℕ) → Level v (suc d) ns → Step v k d (cover v k ns) (cover v k (flat (children v) ns))
step v k d ns l =
    let r = l.row in
    let i = inners v d ns r.good r.at in
    let w = (level-lower v d ns l).row in
    let m = cover v k ns in
    let ci = cover-has v k (Inner v d) ns i r.chain l.some in
    let cg = (cover-has v k (λ (n : ℕ). Each (Good v) (children v n)) ns (Each-flat (Good v) (children v) ns w.good) r.chain l.some).0 in
    let ca = (cover-has v k (λ (n : ℕ). Each (At v d) (children v n)) ns (Each-flat (At v d) (children v) ns w.at) r.chain l.some).0 in
    let cn = (cover-has v k (λ (n : ℕ). within v n k ≡ true → below v (next_child v n) k ≡ true) ns (nexts v k d ns i r.at r.chain)
    r.chain l.some).0 ci.1 in
    let e = cover-flat v k d ns i r.at r.chain w.good w.at l.some in
    let t : Memᴰ (down v m k) (children v m) = rw ci.0.kids (fill-mem v (next_child v m) (down-named v k m ci.1)) in
    record {
      moves = step-down v k d m ci.0 cg ca ci.1 cn ∙ sym e;
      child = rw e (cover-child v k d m ci.0 cn);
      good = each-mem (Good v) cg t;
      at = each-mem (At v d) ca t;
      straight = λ q. step-whole v k d m ci.0 ca q ci.1 cn ∙ sym e;
    }

-- ---- the path

module _ (v : View) (k : ℕ) where
  locate-from : (d n : ℕ) (ns : List ℕ) → Level v d ns → Good v n → At v d n → moved v n k ≡ cover v k ns → locate v d n k
      ≡ some (cover v k (leaves_from v d ns))
  unfolding locate leaves_from
  locate-from zero n ns l g a e = rw (passes-good v 0 n g a, locate) (ap some e)
  locate-from (suc d) n ns l g a e =
      let s = step v k d ns l in
      let q : down v (moved v n k) k ≡ down v (cover v k ns) k = ap (λ (m : ℕ). down v m k) e in
      rw (passes-good v (suc d) n g a, locate)
      (rw q (locate-from d (down v (cover v k ns) k) (flat (children v) ns) (level-lower v d ns l) s.good s.at s.moves))

  path-from : (d i n : ℕ) (ns : List ℕ) → Level v d ns → moved v n k ≡ cover v k ns → i ≤ d → get_or (path_from v d n k) i 0
      ≡ cover v k (leaves_from v i ns)
  unfolding path_from leaves_from
  path-from zero zero n ns l e h = e
  path-from zero (suc i) n ns l e h = absurd (omega arith)
  path-from (suc d) zero n ns l e h = e
  path-from (suc d) (suc i) n ns l e h =
      path-from d i (down v (moved v n k) k) (flat (children v) ns) (level-lower v d ns l)
      (ap (λ (m : ℕ). moved v (down v m k) k) e ∙ (step v k d ns l).moves) (omega arith)

  pub path-length-from : (d n : ℕ) → length (path_from v d n k) ≡ suc d
  unfolding path_from
  path-length-from zero n = refl
  path-length-from (suc d) n = ap suc (path-length-from d (down v (moved v n k) k))

-- a path has one node on each level
pub path-length : (v : View) (k : ℕ) → length (path v k) ≡ suc (height v)
path-length v k = path-length-from v k (height v) v.root

root-covers : (v : View) (k : ℕ) → Orderly v → moved v v.root k ≡ cover v k (v.root ∷ [])
root-covers v k o =
    let b : within v v.root k ≡ true = rw o.top.sibling (unfold below in refl) in
    stays v k v.root b ∙ sym (cover-in v k v.root [] b)

-- the one on level d covers k there
pub path-at : (v : View) (k d : ℕ) → Orderly v → d ≤ height v → get_or (path v k) (height v - d) 0 ≡ cover v k (row_at v d)
path-at v k d o h = path-from v k (height v) (height v - d) v.root (v.root ∷ []) (level-root v o.top o.good)
    (root-covers v k o) (omega arith)

-- the leaf for k
abbrev pub leaf_for : View → ℕ → ℕ
leaf_for v k = cover v k (leaves v)

-- in an orderly tree a search for k from the root finds the leaf for k
pub locate-leaf : (v : View) (k : ℕ) → Orderly v → locate v (height v) v.root k ≡ some (leaf_for v k)
locate-leaf v k o =
    let l = level-root v o.top o.good in
    locate-from v k (height v) v.root (v.root ∷ []) l l.row.good.0 l.row.at.0 (root-covers v k o)

-- in an orderly tree every search stands first on the root
pub path-root : (v : View) (k : ℕ) → Orderly v → get_or (path v k) 0 0 ≡ v.root
unfolding leaves_from
path-root v k o =
    let b : within v v.root k ≡ true = rw o.top.sibling (unfold below in refl) in
    path-from v k (height v) 0 v.root (v.root ∷ []) (level-root v o.top o.good) (root-covers v k o) (omega arith) ∙ cover-in v k v.root [] b

-- in an orderly tree a search for k stands last on the leaf for k
pub path-leaf : (v : View) (k : ℕ) → Orderly v → get_or (path v k) (height v) 0 ≡ leaf_for v k
path-leaf v k o = let e : height v - 0 ≡ height v = omega arith in rw e at (path-at v k 0 o (omega arith))

-- the node of the path on level d
pub record Stands (v : View) (k d n : ℕ) : Type 0 where
  pub reached : Memᴰ n (reached v)
  pub covers : Covers v k d n

-- in an orderly tree the node that a search for k stands on at level d is reached and covers k
pub path-stands : (v : View) (k d : ℕ) → Orderly v → d ≤ height v → Stands v k d (get_or (path v k) (height v - d) 0)
path-stands v k d o h =
    let l = level-at v d o h in
    rw (path-at v k d o h)
    (record { reached = row-reached v _ d h (cover-mem v k (row_at v d) l.row.chain l.some); covers = covers v k d (row_at v d) l })

-- each node but the root is a child of the one before it, found by going down and moving at most once
pub path-step : (v : View) (k d : ℕ) → Orderly v → d < height v
    → Step v k d (get_or (path v k) (height v - suc d) 0) (get_or (path v k) (height v - d) 0)
path-step v k d o h =
    rw (path-at v k d o (omega arith), path-at v k (suc d) o h, row-below v d h) (step v k d (row_at v (suc d)) (level-at v (suc d) o h))

-- in an orderly tree a search stands on reached nodes only
pub path-reached : (v : View) (k : ℕ) → Orderly v → Each (λ (n : ℕ). Memᴰ n (reached v)) (path v k)
path-reached v k o = each-index (λ (n : ℕ). Memᴰ n (reached v)) (path v k) 0 (λ i h.
    let l : i ≤ height v = omega (arith, path-length v k) in
    let e : height v - (height v - i) ≡ i = omega arith in
    rw e at (path-stands v k (height v - i) o (omega arith)).reached)

-- a node is reached exactly if the search for its own fence stands on it
pub reached-iff : (v : View) (n : ℕ) → Orderly v
    → Memᴰ n (reached v) ↔ (((v.node n).level ≤ height v) × (get_or (path v (v.node n).fence) (height v - (v.node n).level) 0 ≡ n))
reached-iff v n o = (
  λ m.
      let r = reached-row v n o m in
      let w = within-up-to v (v.node n).fence n (each-mem (Good v) o.good m) (omega arith) in (
        r.level,
        path-at v (v.node n).fence (v.node n).level o r.level
            ∙ cover-only v (v.node n).fence (v.node n).level n (row_at v (v.node n).level)
            (level-at v (v.node n).level o r.level).row r.row (omega arith) w,
      ),
  λ u. mathlib.Core.List.Memᴰ.cast (sym u.1) (path-stands v (v.node n).fence (v.node n).level o u.0).reached,
)

-- ---- the leaf

-- in an orderly tree the leaf for k has a fence of at most k, and k is below its sibling's
pub leaf-covers : (v : View) (k : ℕ) → Orderly v → Covers v k 0 (leaf_for v k)
leaf-covers v k o = covers v k 0 (leaves v) (level-leaves v o)

-- in an orderly tree the leaf for k is one of the leaves
pub leaf-mem : (v : View) (k : ℕ) → Orderly v → Memᴰ (leaf_for v k) (leaves v)
leaf-mem v k o = let l = level-leaves v o in cover-mem v k (leaves v) l.row.chain l.some

-- a leaf has the slot of a key of its range
pub range-first : (v : View) (k x : ℕ) → Orderly v → Memᴰ x (leaves v) → (v.node x).fence ≤ k → within v x k ≡ true
    → first_with k (mapping v) ≡ first_with k (v.node x).shown
unfolding kept
range-first v k x o m f w =
    let p = leaf-part v x o m in
    let a = flat (kept v) p.left in
    let b = flat (kept v) p.right in
    ap (first_with k) p.parts
    ∙ first-l k a (kept v x ++ b)
    (Each-map (λ (s : Slot). s.key < (v.node x).fence) (λ (s : Slot). s.key ≡ k → ⊥) a (λ s h e. omega arith) p.low)
    ∙ first-r k (kept v x) b
    (Each-map (λ (s : Slot). within v x s.key ≡ false) (λ (s : Slot). s.key ≡ k → ⊥) b
    (λ s h e. false≢true (sym h ∙ ap (within v x) e ∙ w)) p.high)
    ∙ first-filter k (λ (s : Slot). within v x s.key) (v.node x).shown (λ s e. ap (within v x) e ∙ w)

-- ---- the answer

-- a search for k in a sound tree answers what looking k up in its map answers
pub search-view : (v : View) (k : ℕ) → sound_view v ≡ true → search_view v k ≡ lookup k (mapping v)
unfolding search_view lookup
search-view v k h =
    let o = sound-orderly v h in
    let x = leaf_for v k in
    let c = leaf-covers v k o in
    let m = leaf-mem v k o in
    rw (le-leb (height v) 15 o.top.level, search_view)
    (ap (answer_in v k) (locate-leaf v k o)
    ∙ ap (λ (s : Option Slot). answer_of s (next_from v v.nodes x k)) (sym (range-first v k x o m c.fence c.inside))
    ∙ ap (answer_of (first_with k (mapping v))) (next-law v k x o m c.fence))

-- It finds the recording and class of x exactly if the map has (k, x), it is absent exactly if the map has no pair with key k, with the
-- next key up in the map, and it is never refused.
pub search-found : (v : View) (k x : ℕ) → sound_view v ≡ true
    → (search_view v k ≡ Found (recording_of x) (class_of x)) ↔ Memᴰ (slot k x) (mapping v)
search-found v k x h = let o = sound-orderly v h in rw (search-view v k h) (found-iff 0 k x (mapping v) (map-rising v o))

pub search-absent : (v : View) (k : ℕ) (x : Next) → sound_view v ≡ true
    → (search_view v k ≡ Absent x) ↔ (Misses k (mapping v) × (x ≡ first_above k (mapping v)))
search-absent v k x h = rw (search-view v k h) (absent-iff k x (mapping v))

pub search-next : (v : View) (k : ℕ) (x : Next) → sound_view v ≡ true → search_view v k ≡ Absent x → IsNext k (mapping v) x
search-next v k x h e = rw ((search-absent v k x h).0 e).1 (next-least 0 k (mapping v) (map-rising v (sound-orderly v h)))

pub search-answers : (v : View) (k n : ℕ) → sound_view v ≡ true → search_view v k ≢ Refused n
search-answers v k n h = rw (search-view v k h) (lookup-answers k n (mapping v))

-- What it finds is a recording number from 1 to 2 to the power 56, less 1, and a class from 0 to 2.
pub search-class : (v : View) (k r c : ℕ) → sound_view v ≡ true → search_view v k ≡ Found r c
    → (recording_ok r ≡ true) × (class_ok c ≡ true)
search-class v k r c h e = found-ok k r c (mapping v) (map-rises v (sound-orderly v h)).pairs-ok (sym (search-view v k h) ∙ e)
