-- Other slots in one leaf of a settled view: a pair put in at its place enters the map, a pair taken out leaves it, another class changes
-- it.
use Rattle.std.proofs.Common.{◌≡◌, ℕ, suc, ◌<◌, true, false, ◌≢◌, List, ◌∷◌, ◌++◌, map, length, drop, sym, ap, ◌∙◌, subst, append_assoc}
use mathlib.Core.Option.{some}
use Rattle.model.specs.Table.{in_range}
use Rattle.model.specs.Slots.{Slot, slot, View, recording_of, with_class, recording, class_ok}
use Rattle.model.specs.Search.{below, within, first_with}
use Rattle.model.specs.Reached.{flat, pointers, kept, children, reached, leaves, mapping}
use Rattle.model.specs.SoundTest.{elem, sibling_ok, rising, come_first, pair_ok, recordings_ok, nothing}
use Rattle.model.specs.Shifts.{place_of}
use Rattle.model.specs.Refusals.{has_key, has_recording}
use Rattle.model.specs.Ledger.{enter, leave, reclass}
use Rattle.view_laws.proofs.NodeViews.{shown_of}
use Rattle.list_laws.proofs.Tools.{Each, Each-map, flat-append, at-or-off}
use Rattle.list_laws.proofs.Members.{flat-each}
use Rattle.list_laws.proofs.Filters.{filter-all}
use Rattle.list_laws.proofs.Recordings.{class-keeps, class-set, pair-iff, recordings-middle, recordings-off}
use Rattle.tree_laws.proofs.Rows.{Good, leaf-ok}
use Rattle.tree_laws.proofs.Rising.{lower, upper, lower-upper}
use Rattle.tree_laws.proofs.MapLaw.{leaf-recordings}
use Rattle.tree_laws.proofs.SearchLaw.{leaf_for, leaf-mem}
use Rattle.tree_laws.proofs.Leftovers.{NothingUnfinished, settled-iff}
use Rattle.tree_laws.proofs.PlaceOf.{Place, place-of, InsertPlace, place-absent, DeletePlace, place-found}
use Rattle.change_laws.proofs.Lists.{Off}
use Rattle.change_laws.proofs.Updates.{update-at, update-off, with_shown}
use Rattle.change_laws.proofs.Parts.{leaf-iff, good-parts, good-leaf, no-children, HasLeft, all-finished, finished-left, settled-left}
use Rattle.change_laws.proofs.Parts.{Settles}
use Rattle.change_laws.proofs.Shown.{kept-own, finished-own, each-first, shown-reached, shown-leaves, shown-orderly}
use Rattle.change_laws.proofs.Pairs.{has-key-iff, has-key-found, has-recording, recordings-append, slot_in, slot_out, slot_to, enter-at}
use Rattle.change_laws.proofs.Pairs.{leave-at, rising-other, each-other, reclass-at}

-- ---- the slots ss in leaf x

-- they rise from its fence, and lie below its sibling's
pub record Fits (v : View) (x : ℕ) (ss : List Slot) : Type 0 where
  pub rise : rising (v.node x).fence ss ≡ true
  pub within : Each (λ (s : Slot). within v x s.key ≡ true) ss

module _ (v : View) (x : ℕ) (ss : List Slot) (leaf : (v.node x).level ≡ 0) (f : Fits v x ss) where
  abbrev v' : View
  v' = with_shown v x ss

  same : children v' x ≡ children v x
  same = no-children v' x leaf ∙ sym (no-children v x leaf)

  kept-at : kept v' x ≡ ss
  unfolding kept below
  kept-at = rw (update-at (shown_of v) x ss) (filter-all (λ (s : Slot). within v x s.key) ss f.within)

  good-at : Good v x → Good v' x
  unfolding sibling_ok in_range below
  good-at g =
      let u = good-parts v x g in
      let k = (leaf-iff v x).0 (leaf-ok v x g leaf) in
      good-leaf v' x leaf u.0 u.1 ((leaf-iff v' x).1 (record {
        left = k.left;
        keys = record {
          rise = rw kept-at f.rise;
          first = ap (come_first (λ (s : Slot). within v x s.key)) (update-at (shown_of v) x ss)
              ∙ each-first (λ (s : Slot). within v x s.key) ss f.within;
        };
      }))

  finished-at : (n : ℕ) → NothingUnfinished v n → NothingUnfinished v' n
  finished-at = at-or-off (λ (n : ℕ). NothingUnfinished v n → NothingUnfinished v' n) x
      (λ h. record { shows = h.shows; keeps = kept-at ∙ sym (update-at (shown_of v) x ss); names = λ z. absurd (z leaf) })
      (λ n z h. finished-own v _ n (update-off (shown_of v) x ss n z) h)

  -- settled, if the map's recordings are right
  pub leaf-settled : HasLeft v nothing → recordings_ok (mapping (with_shown v x ss)) ≡ true → HasLeft (with_shown v x ss) nothing
  leaf-settled l d = finished-left v' (shown-orderly v x ss same l.orderly good-at d)
      (rw (shown-reached v x ss same) (Each-map (NothingUnfinished v) (NothingUnfinished v') (reached v) finished-at (all-finished v l)))

  pub leaf-reached : reached (with_shown v x ss) ≡ reached v
  leaf-reached = shown-reached v x ss same

  off : (l : List ℕ) → Off x l → flat (kept v') l ≡ flat (kept v) l
  off l z = flat-each (kept v') (kept v) l
      (Each-map (λ (n : ℕ). n ≢ x) (λ (n : ℕ). kept v' n ≡ kept v n) l (λ n y. kept-own v _ n (update-off (shown_of v) x ss n y)) z)

  -- the map: what the leaves before x hold, the slots ss, what those after it hold
  pub leaf-mapping : (left right : List ℕ) → leaves v ≡ left ++ x ∷ right → Off x left → Off x right → mapping (with_shown v x ss)
      ≡ flat (kept v) left ++ (ss ++ flat (kept v) right)
  unfolding mapping flat
  leaf-mapping left right e a b =
      ap (flat (kept v')) (shown-leaves v x ss same ∙ e) ∙ flat-append (kept v') left (x ∷ right) ∙ rw (off left a, off right b, kept-at)

-- ---- a pair enters or leaves

module _ (v : View) (k : ℕ) (l : HasLeft v nothing) where
  abbrev x : ℕ
  x = leaf_for v k

  abbrev ss : List Slot
  ss = (v.node x).shown

  place : Place v k ss
  place = place-of v k ((settled-iff v).0 ((settled-left v).1 l))

  abbrev before : List Slot
  before = flat (kept v) place.left ++ lower k ss

  abbrev after : List Slot
  after = flat (kept v) place.right

  module _ (y : ℕ) (no-key : has_key k (mapping v) ≡ false) (no-recording : has_recording (recording_of y) (mapping v) ≡ false)
      (ok : pair_ok (slot k y) ≡ true) where
    insert : InsertPlace v k y ss place.left place.right
    insert = place-absent v k y ss l.orderly place ((has-key-iff k (mapping v)).0 no-key)

    fits : Fits v x (slot_in k y ss)
    fits = record { rise = insert.rises; within = insert.within }

    abbrev entered : View
    entered = with_shown v x (slot_in k y ss)

    entered-map : mapping entered ≡ before ++ slot k y ∷ (upper k ss ++ after)
    entered-map = leaf-mapping v x (slot_in k y ss) place.level fits place.left place.right place.row place.not-left
        place.not-right ∙ simp append_assoc

    -- its recording is none of the map's
    fresh : elem (recording_of y) (map recording (before ++ (upper k ss ++ after))) ≡ false
    fresh = rw place.map at (sym (has-recording (recording_of y) (mapping v)) ∙ no-recording)

    recordings : recordings_ok (mapping entered) ≡ true
    recordings = rw entered-map
        ((recordings-middle (slot k y) before (upper k ss ++ after)).1 (ok, fresh, rw place.map at l.orderly.recordings))

    entered-settles : Settles v entered (enter k y (mapping v))
    entered-settles = record {
      left = leaf-settled v x (slot_in k y ss) place.level fits l recordings;
      mapping = entered-map ∙ sym (ap (enter k y) place.map ∙ enter-at k y before (upper k ss ++ after) place.low insert.above);
      reached = leaf-reached v x (slot_in k y ss) place.level fits;
    }

    -- nor of the leaf's
    fresh-here : elem (recording_of y) (map recording ss) ≡ false
    fresh-here =
        let u = (recordings-append (recording_of y) before (upper k ss ++ after)).0 fresh in
        ap (λ (m : List Slot). elem (recording_of y) (map recording m)) (lower-upper k ss)
        ∙ (recordings-append (recording_of y) (lower k ss) (upper k ss)).1 (
          ((recordings-append (recording_of y) (flat (kept v) place.left) (lower k ss)).0 u.0).1,
          ((recordings-append (recording_of y) (upper k ss) after).0 u.1).0,
        )

  module _ (y : ℕ) (found : first_with k (mapping v) ≡ some (slot k y)) where
    abbrev rest : List Slot
    rest = drop (suc (place_of k ss)) ss

    delete : DeletePlace v k y ss place.left place.right
    delete = place-found v k y ss l.orderly place found

    right-recordings : recordings_ok (before ++ slot k y ∷ (rest ++ after)) ≡ true
    right-recordings = rw delete.map at l.orderly.recordings

    -- ---- the pair taken out

    fits-less : Fits v x (slot_out k ss)
    fits-less = record { rise = delete.rises; within = delete.within }

    abbrev less : View
    less = with_shown v x (slot_out k ss)

    less-map : mapping less ≡ before ++ (rest ++ after)
    less-map = leaf-mapping v x (slot_out k ss) place.level fits-less place.left place.right place.row place.not-left
        place.not-right ∙ simp append_assoc

    less-settles : Settles v less (leave k (mapping v))
    less-settles = record {
      left = leaf-settled v x (slot_out k ss) place.level fits-less l
          (rw less-map ((recordings-middle (slot k y) before (rest ++ after)).0 right-recordings).2);
      mapping = less-map ∙ sym (ap (leave k) delete.map ∙ leave-at k y before (rest ++ after) place.low delete.above);
      reached = leaf-reached v x (slot_out k ss) place.level fits-less;
    }

    -- ---- the pair with another class

    module _ (c : ℕ) (ok : class_ok c ≡ true) where
      abbrev z : ℕ
      z = with_class y c

      fits-class : Fits v x (slot_to k z ss)
      fits-class =
          let own : Fits v x (slot_to k y ss) = subst (Fits v x) delete.slot-at (record { rise = place.rises; within = place.within }) in
          record {
            rise = sym (rising-other (v.node x).fence k y z (lower k ss) rest) ∙ own.rise;
            within = each-other (λ (n : ℕ). within v x n ≡ true) k y z (lower k ss) rest own.within;
          }

      abbrev classed : View
      classed = with_shown v x (slot_to k z ss)

      classed-map : mapping classed ≡ before ++ slot k z ∷ (rest ++ after)
      classed-map = leaf-mapping v x (slot_to k z ss) place.level fits-class place.left place.right place.row place.not-left
          place.not-right ∙ simp append_assoc

      classed-recordings : recordings_ok (before ++ slot k z ∷ (rest ++ after)) ≡ true
      classed-recordings =
          let u = (recordings-middle (slot k y) before (rest ++ after)).0 right-recordings in
          (recordings-middle (slot k z) before (rest ++ after)).1 (
            (pair-iff (slot k z)).1 (rw (class-keeps y c) ((pair-iff (slot k y)).0 u.0).0, rw (class-set y c) ok),
            rw (class-keeps y c) u.1,
            u.2,
          )

      classed-settles : Settles v classed (reclass k c (mapping v))
      classed-settles = record {
        left = leaf-settled v x (slot_to k z ss) place.level fits-class l (rw classed-map classed-recordings);
        mapping = classed-map ∙ sym (ap (reclass k c) delete.map ∙ reclass-at k c y before (rest ++ after) place.low delete.above);
        reached = leaf-reached v x (slot_to k z ss) place.level fits-class;
      }

      leaf-right : recordings_ok (slot_to k z ss) ≡ true
      leaf-right =
          rw (kept-at v x (slot_to k z ss) place.level fits-class) at
          (leaf-recordings classed x classed-settles.left.orderly
          (rw (shown-leaves v x (slot_to k z ss) (same v x (slot_to k z ss) place.level fits-class)) (leaf-mem v k l.orderly)))

-- neither k nor the recording of the pointer y is in the map, and y has a recording and a class that there are
pub record NewPair (v : View) (k y : ℕ) : Type 0 where
  pub no-key : has_key k (mapping v) ≡ false
  pub no-recording : has_recording (recording_of y) (mapping v) ≡ false
  pub ok : pair_ok (slot k y) ≡ true

-- a new pair put in at its place in its leaf leaves the tree settled, its map with the pair more
pub enter-leaf : (v : View) (k y : ℕ) → HasLeft v nothing → NewPair v k y
    → Settles v (with_shown v (leaf_for v k) (slot_in k y (v.node (leaf_for v k)).shown)) (enter k y (mapping v))
enter-leaf v k y l e = entered-settles v k l y e.no-key e.no-recording e.ok

-- y is no pointer of the leaf
pub enter-fresh : (v : View) (k y : ℕ) → HasLeft v nothing → NewPair v k y → elem y (pointers (v.node (leaf_for v k)).shown) ≡ false
enter-fresh v k y l e = recordings-off y (v.node (leaf_for v k)).shown (fresh-here v k l y e.no-key e.no-recording e.ok)

-- a key's slot taken out of its leaf leaves the tree settled, its map without the key
pub leave-leaf : (v : View) (k : ℕ) → HasLeft v nothing → has_key k (mapping v) ≡ true
    → Settles v (with_shown v (leaf_for v k) (slot_out k (v.node (leaf_for v k)).shown)) (leave k (mapping v))
leave-leaf v k l h = let u = has-key-found k (mapping v) h in less-settles v k l u.0 u.1

-- the leaf shows k at its place
pub leave-place : (v : View) (k : ℕ) → HasLeft v nothing → has_key k (mapping v) ≡ true
    → place_of k (v.node (leaf_for v k)).shown < length (v.node (leaf_for v k)).shown
leave-place v k l h = let u = has-key-found k (mapping v) h in (delete v k l u.0 u.1).in-use

-- the pointer y of k in its leaf, and the leaf with another class for it
pub record ClassPlace (v : View) (k c : ℕ) : Type 0 where
  pub pointer : ℕ
  pub shown : (v.node (leaf_for v k)).shown ≡ slot_to k pointer (v.node (leaf_for v k)).shown
  pub settles : Settles v (with_shown v (leaf_for v k) (slot_to k (with_class pointer c) (v.node (leaf_for v k)).shown))
      (reclass k c (mapping v))
  pub right : recordings_ok (slot_to k (with_class pointer c) (v.node (leaf_for v k)).shown) ≡ true

-- the leaf of a key that the map has shows its slot, and another class set there leaves the tree settled
pub class-leaf : (v : View) (k c : ℕ) → HasLeft v nothing → has_key k (mapping v) ≡ true → class_ok c ≡ true → ClassPlace v k c
class-leaf v k c l h ok =
    let u = has-key-found k (mapping v) h in
    record {
      pointer = u.0;
      shown = (delete v k l u.0 u.1).slot-at;
      settles = classed-settles v k l u.0 u.1 c ok;
      right = leaf-right v k l u.0 u.1 c ok;
    }
