-- A pair shifted in at its leaf, one shifted out, and one with another class: each store leaves a sound table, and one store changes the
-- map.
use Rattle.std.proofs.Common.{◌≡◌, ℕ, suc, ◌<◌, ◌≤◌, true, false, ◌≢◌, List, [], ◌∷◌, ◌++◌, length, get_or, take, drop, set, refl, ap, ◌∙◌}
use Rattle.std.proofs.Common.{arith, length-take-le}
use mathlib.Core.List.{map-append, Memᴰ}
use lib.Seq.{split_at, get_or_at}
use Rattle.model.specs.Table.{MARK, Words}
use Rattle.model.specs.Slots.{Slot, slot, with_class, class_ok, View, node_view}
use Rattle.model.specs.Reached.{pointers, kept, reached}
use Rattle.model.specs.SoundTest.{elem, distinct, nothing, hidden_in}
use Rattle.model.specs.Orders.{put, apply, orders, orders_after}
use Rattle.model.specs.Shifts.{pointer_to, pointer_word, shift_out, place_of}
use Rattle.model.specs.Writes.{shift_in_at, shift_out_at, set_class_at}
use Rattle.model.specs.Refusals.{has_key}
use Rattle.model.specs.Ledger.{enter, leave, reclass}
use Rattle.list_laws.proofs.Tools.{Each, Each-append}
use Rattle.list_laws.proofs.Members.{each-mem, each-take, each-drop, elem-cons}
use Rattle.list_laws.proofs.Distinct.{distinct-middle}
use Rattle.list_laws.proofs.Recordings.{pair-pointer, pointers-apart}
use Rattle.list_laws.proofs.Steps.{AtFirst, until-map, first-map}
use Rattle.slot_laws.proofs.Hiding.{Used, AllShown, distinct-shown}
use Rattle.slot_laws.proofs.SlotStores.{set_pointer, set-pointer-at}
use Rattle.slot_laws.proofs.Shifts.{put-in-shown}
use Rattle.word_laws.proofs.Stores.{do_store, after-first}
use Rattle.word_laws.proofs.ShiftViews.{Changed, with_slot, without_slot, view-used, view-shown, shift-in-view, shift-out-view}
use Rattle.word_laws.proofs.ShiftViews.{pointer-view}
use Rattle.tree_laws.proofs.Rows.{leaf-ok}
use Rattle.tree_laws.proofs.Levels.{mem-leaves}
use Rattle.tree_laws.proofs.MapLaw.{leaf-pointers}
use Rattle.tree_laws.proofs.SearchLaw.{leaf_for, leaf-mem, leaf-covers}
use Rattle.tree_laws.proofs.PlaceOf.{standing-leaf}
use Rattle.change_laws.proofs.Updates.{with_shown, with_hidden}
use Rattle.change_laws.proofs.Parts.{leaf-iff, Settles}
use Rattle.change_laws.proofs.Hiding.{hide}
use Rattle.change_laws.proofs.Pairs.{slot_to}
use Rattle.change_laws.proofs.LeafSlots.{NewPair, enter-leaf, enter-fresh, leave-leaf, leave-place, ClassPlace, class-leaf}
use Rattle.step_laws.proofs.Phase.{Phase}
use Rattle.step_laws.proofs.Stages.{SoundWith, SettledWith, phase-until, phase-first}
use Rattle.step_laws.proofs.Bounds.{shift-in-few, shift-in-inside, shift-out-few, shift-out-inside, slot-inside}
use Rattle.step_laws.proofs.Rowwise.{Straight, same-refl, none-straight}
use Rattle.step_laws.proofs.LevelCourses.{QuietAt, Quiet, each-part, each-first-part}
use Rattle.step_laws.proofs.SlotCourses.{hidden-quiet, slots-quiet}
use Rattle.step_laws.proofs.Views.{changed-view, shown-view, same-view, view-sound, view-settles, view-same, may-hide, Usable}
use Rattle.step_laws.proofs.Views.{reached-usable, shown-few}
use Rattle.step_laws.proofs.TreeAt.{tree_at, Fine, map_at, standing_at}

-- a pointer that no slot has
pub not-pointed : (x : ℕ) (ss : List Slot) → elem x (pointers ss) ≡ false → Each (λ (s : Slot). x ≢ s.pointer) ss
not-pointed x [] h = tt
not-pointed x (s ∷ ss) h = let u = (elem-cons x s.pointer (pointers ss)).0 h in (u.0, not-pointed x ss u.1)

module _ (w : ℕ) (ns : List ℕ) where
  module _ (t : Words) (s : Fine w ns t nothing) (k : ℕ) where
    abbrev v : View
    v = tree_at w t

    abbrev x : ℕ
    x = leaf_for (tree_at w t) k

    fine : Fine w ns t nothing
    fine = s

    x-reached : Memᴰ x (reached v)
    x-reached = ((mem-leaves v x fine.left.orderly).0 (leaf-mem v k fine.left.orderly)).0

    use-x : Usable t x
    use-x = reached-usable w t x fine.header fine.left.orderly x-reached

    no-hidden : (v.node x).hidden ≡ 0
    no-hidden = each-mem (λ (n : ℕ). (v.node n).hidden ≡ 0) fine.left.left.0 x-reached

    left-mark : (v.node x).left ≡ MARK
    left-mark = let c = leaf-covers v k fine.left.orderly in ((leaf-iff v x).0 (leaf-ok v x c.good c.at.level)).left

    standing-x : standing_at w t 0 k ≡ x
    standing-x = standing-leaf v k fine.left.orderly

    -- no node lacks its slot
    no-gap : (l : ℕ) → Straight l v
    no-gap = none-straight v fine.left.left.2

    -- ---- shift in

    module _ (y : ℕ) (new : NewPair (tree_at w t) k y) (room : length (node_view t (leaf_for (tree_at w t) k)).shown ≤ 10) where
      in-shown : AllShown (v.node x).left (with_slot t x k y)
      in-shown =
          let u = pair-pointer (slot k y) new.ok in
          put-in-shown (v.node x).left (v.node x).shown (place_of k (v.node x).shown) k y (view-shown t x no-hidden) u.0
          (λ e. u.1 (e ∙ left-mark)) (not-pointed y (v.node x).shown (enter-fresh v k y fine.left new))

      entered : (t' : Words) → Changed t x (with_slot t x k y) 0 t' → SettledWith w ns (enter k y (map_at w t)) t'
      entered t' c = view-settles w ns t t' _ (shown-view w fine.low t x (with_slot t x k y) 0 t' c no-hidden) c.header fine _
          (enter-leaf v k y fine.left new)

      shifted-in : Phase w ns 27 t (shift_in_at t x k y) (enter k y (map_at w t))
      shifted-in = phase-until w ns 27 t (shift_in_at t x k y) (shift-in-few t x k y room) (shift-in-inside t x k y room use-x.there)
          (enter k y (map_at w t))
          (until-map do_store _ (SoundWith w ns (map_at w t)) _ (SettledWith w ns (enter k y (map_at w t)))
          (may-hide w ns t x nothing (hidden_in x) fine no-hidden (hide v x fine.left x-reached) refl) entered (shift_in_at t x k y) t
          (shift-in-view t x use-x.there use-x.clear use-x.left no-hidden k y room in-shown))

      in-quiet : (l : ℕ) → Quiet (tree_at w) l t (shift_in_at t x k y)
      in-quiet l =
          let e = enter-leaf v k y fine.left new in
          each-part (QuietAt (tree_at w) l t) (shift_in_at t x k y) t
          (until-map do_store _ (QuietAt (tree_at w) l t) _ (QuietAt (tree_at w) l t)
          (λ t' u. hidden-quiet w fine.low t x l (no-gap l) u.0 t' u.2)
          (λ t' c. slots-quiet w fine.low t x l (with_slot t x k y) 0 t' c e.reached
          (none-straight (with_shown v x (with_slot t x k y)) e.left.left.2 l)) (shift_in_at t x k y) t
          (shift-in-view t x use-x.there use-x.clear use-x.left no-hidden k y room in-shown))

    -- k with the pointer y is shifted in at its leaf, which has room for it.
    pub leaf-shift-in : (y : ℕ) → NewPair (tree_at w t) k y → length (node_view t (standing_at w t 0 k)).shown ≤ 10
        → Phase w ns 27 t (shift_in_at t (standing_at w t 0 k) k y) (enter k y (map_at w t))
    leaf-shift-in y new room = rw standing-x (shifted-in y new (rw standing-x at room))

    -- every level is quiet meanwhile
    pub leaf-in-quiet : (y : ℕ) → NewPair (tree_at w t) k y → length (node_view t (standing_at w t 0 k)).shown ≤ 10 → (l : ℕ)
        → Quiet (tree_at w) l t (shift_in_at t (standing_at w t 0 k) k y)
    leaf-in-quiet y new room = rw standing-x (in-quiet y new (rw standing-x at room))

    -- ---- shift out

    module _ (has : has_key k (map_at w t) ≡ true) where
      abbrev ss : List Slot
      ss = (v.node x).shown

      abbrev p : ℕ
      p = place_of k ss

      -- no pointer of the leaf is twice in it, or MARK
      own-pointers : distinct (MARK ∷ pointers ss) ≡ true
      own-pointers = rw (each-mem (λ (n : ℕ). kept v n ≡ (v.node n).shown) fine.left.left.1 x-reached) at
          (leaf-pointers v x fine.left.orderly (leaf-mem v k fine.left.orderly))

      out-shown : AllShown (v.node x).left (without_slot t x k)
      out-shown =
          let low = take p ss in
          let it = get_or ss p (slot 0 0) in
          let rest = drop (suc p) ss in
          let u = view-used t x in
          let e : pointers ss ≡ pointers low ++ it.pointer ∷ pointers rest =
          ap pointers (split_at ss p (slot 0 0) (leave-place v k fine.left has)) ∙ map-append _ low (it ∷ rest) in
          let d = ((distinct-middle it.pointer (MARK ∷ pointers low) (pointers rest)).0 (rw e at own-pointers)).1 in
          distinct-shown (v.node x).left (low ++ rest) (Each-append Used low rest (each-take Used p ss u) (each-drop Used (suc p) ss u))
          (ap (λ (n : ℕ). distinct (n ∷ pointers (low ++ rest))) left-mark
          ∙ ap (λ (l : List ℕ). distinct (MARK ∷ l)) (map-append _ low rest) ∙ d)

      abbrev less : View
      less = with_shown v x (without_slot t x k)

      settles : Settles v less (leave k (map_at w t))
      settles = leave-leaf v k fine.left has

      unchanged : (t' : Words) → Changed t x ss 0 t' → SoundWith w ns (map_at w t) t'
      unchanged t' c = view-same w ns t t' nothing fine (same-view w fine.low t x ss 0 t' c refl no-hidden) c.header

      hiding : (t' : Words) → Changed t x (without_slot t x k) 1 t' → SoundWith w ns (leave k (map_at w t)) t'
      hiding t' c =
          let h = hide less x settles.left (rw settles.reached x-reached) in
          view-sound w ns t t' (with_hidden less x 1) (changed-view w fine.low t x (without_slot t x k) 1 t' c) c.header fine
          (hidden_in x) h.left refl (rw (h.reached, settles.reached) fine.apart) _ (h.mapping ∙ settles.mapping)

      gone : (t' : Words) → Changed t x (without_slot t x k) 0 t' → SettledWith w ns (leave k (map_at w t)) t'
      gone t' c = view-settles w ns t t' less (shown-view w fine.low t x (without_slot t x k) 0 t' c no-hidden) c.header fine _ settles

      shifting : AtFirst do_store (Changed t x ss 0) (Changed t x (without_slot t x k) 1)
          (Changed t x (without_slot t x k) 0) (shift_out_at t x k) t
      shifting = shift-out-view t x use-x.there use-x.clear use-x.left no-hidden k (leave-place v k fine.left has) out-shown

      stores-some : 0 < length (shift_out_at t x k)
      stores-some = unfold shift_out_at shift_out in omega arith

      shifted-out : Phase w ns 25 t (shift_out_at t x k) (leave k (map_at w t))
      shifted-out =
          let few = shown-few t x use-x.clear in
          let i = leave-place v k fine.left has in
          phase-first w ns 25 t (shift_out_at t x k) (shift-out-few t x k few i)
          (shift-out-inside t x k few i use-x.there) (leave k (map_at w t))
          (first-map do_store _ (SoundWith w ns (map_at w t)) _ (SoundWith w ns (leave k (map_at w t))) _
          (SettledWith w ns (leave k (map_at w t))) unchanged hiding gone (shift_out_at t x k) t shifting) stores-some

      -- The pair of k is shifted out of its leaf.
      pub leaf-shift-out : Phase w ns 25 t (shift_out_at t (standing_at w t 0 k) k) (leave k (map_at w t))
      leaf-shift-out = rw standing-x shifted-out

      out-quiet : (l : ℕ) → Quiet (tree_at w) l t (shift_out_at t x k)
      out-quiet l =
          let whole = none-straight less settles.left.left.2 l in
          each-first-part (QuietAt (tree_at w) l t) (shift_out_at t x k) t
          (first-map do_store _ (QuietAt (tree_at w) l t) _ (QuietAt (tree_at w) l t) _ (QuietAt (tree_at w) l t)
          (λ t' c. hidden-quiet w fine.low t x l (no-gap l) 0 t' c)
          (λ t' c. slots-quiet w fine.low t x l (without_slot t x k) 1 t' c settles.reached whole)
          (λ t' c. slots-quiet w fine.low t x l (without_slot t x k) 0 t' c settles.reached whole) (shift_out_at t x k) t shifting)

      -- every level is quiet meanwhile
      pub leaf-out-quiet : (l : ℕ) → Quiet (tree_at w) l t (shift_out_at t (standing_at w t 0 k) k)
      leaf-out-quiet = rw standing-x out-quiet

      seen : tree_at w (apply (shift_out_at t x k) t) ≡ less
      seen = shown-view w fine.low t x (without_slot t x k) 0 _
          (after-first (Changed t x ss 0) (Changed t x (without_slot t x k) 1) (Changed t x (without_slot t x k) 0) (shift_out_at t x k) t
          shifting stores-some) no-hidden

      -- what is seen then: the leaf shows the others
      pub leaf-out-seen : tree_at w (apply (shift_out_at t (standing_at w t 0 k) k) t)
          ≡ with_shown (tree_at w t) (standing_at w t 0 k) (without_slot t (standing_at w t 0 k) k)
      leaf-out-seen = rw standing-x seen

      -- after a key is shifted out of its leaf the same nodes are reached
      pub leaf-out-reached : reached (tree_at w (apply (shift_out_at t (standing_at w t 0 k) k) t)) ≡ reached (tree_at w t)
      leaf-out-reached = rw standing-x (ap reached seen ∙ settles.reached)

      -- it showed k at its place
      pub leaf-out-place : place_of k (node_view t (standing_at w t 0 k)).shown < length (node_view t (standing_at w t 0 k)).shown
      leaf-out-place = rw standing-x (leave-place v k fine.left has)

    -- ---- another class

    module _ (has : has_key k (map_at w t) ≡ true) (c : ℕ) (ok : class_ok c ≡ true) where
      place-c : ClassPlace v k c
      place-c = class-leaf v k c fine.left has ok

      abbrev all : List Slot
      all = (v.node x).shown

      abbrev at-k : ℕ
      at-k = place_of k all

      abbrev y : ℕ
      y = with_class place-c.pointer c

      inside-k : at-k < length all
      inside-k = leave-place v k fine.left has

      taken : length (take at-k all) ≡ at-k
      taken = length-take-le at-k all (omega (arith, inside-k))

      -- the store is to the pointer of k's slot
      one-store : set_class_at t x k c ≡ put (pointer_word x at-k) y ∷ []
      unfolding set_class_at
      one-store =
          let e : get_or all at-k (slot 0 0) ≡ slot k place-c.pointer =
          ap (λ (l : List Slot). get_or l at-k (slot 0 0)) place-c.shown
          ∙ get_or_at (take at-k all) (slot k place-c.pointer) (drop (suc at-k) all) (slot 0 0) at-k taken in
          ap (λ (s : Slot). put (pointer_word x at-k) (with_class s.pointer c) ∷ []) e

      set-there : set_pointer all at-k y ≡ slot_to k y all
      set-there = ap (λ (l : List Slot). set_pointer l at-k y) place-c.shown
          ∙ set-pointer-at (take at-k all) (slot k place-c.pointer) (drop (suc at-k) all) at-k y taken

      all-shown : AllShown (v.node x).left (slot_to k y all)
      all-shown =
          let u = pointers-apart (slot_to k y all) place-c.right in
          distinct-shown (v.node x).left (slot_to k y all) u.1 (ap (λ (n : ℕ). distinct (n ∷ pointers (slot_to k y all))) left-mark ∙ u.0)

      class-there : Changed t x (slot_to k y all) 0 (set t (pointer_word x at-k) y)
      class-there = rw set-there at (pointer-view t x use-x.there use-x.clear at-k y no-hidden inside-k (rw set-there all-shown))

      class-set : SettledWith w ns (reclass k c (map_at w t)) (set t (pointer_word x at-k) y)
      class-set = view-settles w ns t _ _ (shown-view w fine.low t x (slot_to k y all) 0 _ class-there no-hidden)
          class-there.header fine _ place-c.settles

      stored : Phase w ns 2 t (put (pointer_word x at-k) y ∷ []) (reclass k c (map_at w t))
      unfolding orders orders_after
      stored =
          let few : at-k < 12 = omega (arith, inside-k, shown-few t x use-x.clear) in
          phase-until w ns 2 t (put (pointer_word x at-k) y ∷ []) (omega arith) (slot-inside t x (pointer_to at-k y) use-x.there few, tt)
          (reclass k c (map_at w t)) (((nothing, s), refl), class-set)

      -- The slot of k in its leaf gets class c, in one store and one flush.
      pub leaf-class : Phase w ns 2 t (set_class_at t (standing_at w t 0 k) k c) (reclass k c (map_at w t))
      leaf-class = rw (standing-x, one-store) stored

      class-quiet : (l : ℕ) → Quiet (tree_at w) l t (put (pointer_word x at-k) y ∷ [])
      class-quiet l =
          let s = place-c.settles in
          each-part (QuietAt (tree_at w) l t) (put (pointer_word x at-k) y ∷ []) t (
            record { same = same-refl l v; straight = no-gap l },
            slots-quiet w fine.low t x l (slot_to k y all) 0 _ class-there s.reached
                (none-straight (with_shown v x (slot_to k y all)) s.left.left.2 l),
          )

      -- every level is quiet meanwhile
      pub leaf-class-quiet : (l : ℕ) → Quiet (tree_at w) l t (set_class_at t (standing_at w t 0 k) k c)
      leaf-class-quiet = rw (standing-x, one-store) class-quiet
