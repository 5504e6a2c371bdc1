-- Repair: close, cut and attach, store by store. Every store leaves a sound table with the same map, and the last a settled one.
use Rattle.std.proofs.Common.{◌≡◌, ℕ, ◌<◌, ◌≤◌, true, false, ◌≢◌, List, [], ◌∷◌, ◌++◌, length, take, sym, refl, ap, ◌∙◌, append_assoc}
use Rattle.std.proofs.Common.{arith, length-append, leb-true}
use mathlib.Core.List.{Memᴰ}
use mathlib.Core.Option.{some}
use Rattle.model.specs.Table.{Words, node_start}
use Rattle.model.specs.Slots.{Slot, NodeView, View, node_view, height}
use Rattle.model.specs.Reached.{pointers, kept, children, reached}
use Rattle.model.specs.SoundTest.{elem, Leftover, nothing, hidden_in, missing_in, both_in, room, has_room}
use Rattle.model.specs.Orders.{apply, orders_after, orders}
use Rattle.model.specs.Shifts.{place_of}
use Rattle.model.specs.Writes.{shift_in_at, close_at, cut_off, attach, repair_of}
use Rattle.view_laws.proofs.NodeViews.{level_of, fence_of, stays-all, left-eq, shown-eq, sibling-eq}
use Rattle.list_laws.proofs.Members.{each-mem, elem-cons, mem-here}
use Rattle.list_laws.proofs.Steps.{Until, until-map}
use Rattle.table_laws.proofs.Nodes.{has-node-iff}
use Rattle.slot_laws.proofs.Hiding.{AllShown}
use Rattle.slot_laws.proofs.Shifts.{put-in-shown}
use Rattle.word_laws.proofs.Stores.{do_store, after-whole}
use Rattle.word_laws.proofs.ShiftViews.{Changed, with_slot, view-shown, shift-in-view, close-view, cut-view, shift-in-same}
use Rattle.tree_laws.proofs.Rows.{Good, not-zero}
use Rattle.tree_laws.proofs.Levels.{Orderly, Bounded, reached-bounds}
use Rattle.tree_laws.proofs.Kept.{ignored, shown-split, cut-place, kept-whole}
use Rattle.tree_laws.proofs.Leftovers.{MissingOnly, gap-children}
use Rattle.cut_laws.specs.Inside.{StoresInside}
use Rattle.change_laws.proofs.Updates.{with_shown, with_hidden}
use Rattle.change_laws.proofs.Parts.{has-left-iff, Keeps}
use Rattle.change_laws.proofs.Hiding.{unhide, hide-missing, unhide-missing}
use Rattle.change_laws.proofs.Cut.{kept-take, cut-keeps}
use Rattle.change_laws.proofs.Parents.{child-reached, child-level}
use Rattle.change_laws.proofs.Attach.{attach-fresh, attach-settles}
use Rattle.step_laws.proofs.Phase.{Phase, phase-nil}
use Rattle.step_laws.proofs.Stages.{SoundWith, SettledWith, Stage, stage-until, stage-whole, stage-phase, phase-until, phase-within}
use Rattle.step_laws.proofs.Bounds.{shift-in-few, shift-in-inside, close-few, close-inside}
use Rattle.step_laws.proofs.Rowwise.{same-refl, none-straight, only-straight}
use Rattle.step_laws.proofs.LevelCourses.{CalmAt, each-part}
use Rattle.step_laws.proofs.SlotCourses.{hidden-still, hidden-keeps, slots-still, slots-quiet}
use Rattle.step_laws.proofs.Views.{shown-view, hidden-view, same-view, view-fine, view-keeps, view-settles, keeps-settles, view-same}
use Rattle.step_laws.proofs.Views.{may-hide, Usable, reached-usable, used-few, shown-few}
use Rattle.step_laws.proofs.LeafShift.{not-pointed}
use Rattle.step_laws.proofs.TreeAt.{tree_at, Sound, Fine, map_at, repair_at, repaired_at}

-- ---- a's sibling, which lacks its slot in p

module _ (v : View) (p a : ℕ) (o : Orderly v) (g : MissingOnly v p a) where
  abbrev before : List ℕ
  before = g.here.1.before

  abbrev after : List ℕ
  after = g.here.1.after

  -- the children of p have a and then its sibling
  row : children v p ≡ before ++ a ∷ (v.node a).sibling ∷ after
  row = gap-children v p a g.here.0 g.here.1

  a-child : Memᴰ a (children v p)
  a-child = rw row (mem-here a before ((v.node a).sibling ∷ after))

  sibling-child : Memᴰ (v.node a).sibling (children v p)
  sibling-child = rw (row ∙ sym (append_assoc before (a ∷ []) ((v.node a).sibling ∷ after)))
      (mem-here (v.node a).sibling (before ++ a ∷ []) after)

  pub sibling-some : (v.node a).sibling ≢ 0
  sibling-some = not-zero v (v.node a).sibling
      (each-mem (Bounded v (height v)) (reached-bounds v o) (child-reached v p (v.node a).sibling o g.member sibling-child)).0

  -- the node whose sibling lacks its slot is reached
  pub a-reached : Memᴰ a (reached v)
  a-reached = child-reached v p a o g.member a-child

  -- a is one level below p
  pub parent-other : p ≢ a
  parent-other q = omega (arith, child-level v p a o g.member a-child, ap (level_of v) q)

module _ (w : ℕ) (ns : List ℕ) where
  -- ---- close

  module _ (t : Words) (x : ℕ) (y : Leftover) (f : Fine w ns t y) (m : Memᴰ x (reached (tree_at w t)))
      (one : (node_view t x).hidden ≡ 1) where
    use-x : Usable t x
    use-x = reached-usable w t x f.header f.left.orderly m

    closing : Until do_store (Changed t x (node_view t x).shown 1) (Changed t x (node_view t x).shown 0) (close_at t x) t
    closing = close-view t x use-x.there use-x.clear one

    pub close-changed : Changed t x (node_view t x).shown 0 (apply (close_at t x) t)
    close-changed = after-whole (Changed t x (node_view t x).shown 1) (Changed t x (node_view t x).shown 0) (close_at t x) t closing

    closed : (t' : Words) → Changed t x (node_view t x).shown 0 t' → tree_at w t' ≡ with_hidden (tree_at w t) x 0
    closed t' c = hidden-view w f.low t x (node_view t x).shown 0 t' c refl

    pub close-seen : tree_at w (apply (close_at t x) t) ≡ with_hidden (tree_at w t) x 0
    close-seen = closed (apply (close_at t x) t) close-changed

    still : (t' : Words) → Changed t x (node_view t x).shown 1 t' → SoundWith w ns (map_at w t) t'
    still t' c = view-same w ns t t' y f (same-view w f.low t x (node_view t x).shown 1 t' c refl one) c.header

    few : length (orders (close_at t x)) ≤ 24
    few = close-few t x (used-few t x use-x.clear) one

    inside : StoresInside (length t) (close_at t x)
    inside = close-inside t x (used-few t x use-x.clear) one use-x.there

    close-settles : Keeps (tree_at w t) (with_hidden (tree_at w t) x 0) nothing → Phase w ns 24 t (close_at t x) (map_at w t)
    close-settles k = phase-until w ns 24 t (close_at t x) few inside (map_at w t)
        (until-map do_store _ (SoundWith w ns (map_at w t)) _ (SettledWith w ns (map_at w t)) still
        (λ t' c. view-settles w ns t t' _ (closed t' c) c.header f (map_at w t) (keeps-settles (tree_at w t) _ k)) (close_at t x) t closing)

    close-keeps : (y' : Leftover) → Keeps (tree_at w t) (with_hidden (tree_at w t) x 0) y' → has_room (tree_at w t) y' ≡ true
        → Stage w ns 24 t (close_at t x) × Fine w ns (apply (close_at t x) t) y'
    close-keeps y' k r = (
      stage-until w ns 24 t (close_at t x) few inside
          (until-map do_store _ (SoundWith w ns (map_at w t)) _ (SoundWith w ns (map_at w t)) still
          (λ t' c. view-keeps w ns t t' _ (closed t' c) c.header f y' k r) (close_at t x) t closing),
      view-fine w ns t _ _ close-seen close-changed.header f y' k.left (k.room r) (rw k.reached f.apart),
    )

  -- (a): the hidden slot is closed
  pub close-phase : (t : Words) (x : ℕ) → Fine w ns t (hidden_in x) → Phase w ns 24 t (close_at t x) (map_at w t)
  close-phase t x f = let u = f.left.left.0 in close-settles t x (hidden_in x) f u.member u.here (unhide (tree_at w t) x f.left)

  -- (c): the hidden slot of the parent is closed, and leaves (b)
  pub close-stage : (t : Words) (p a : ℕ) → Fine w ns t (both_in p a) → Stage w ns 24 t (close_at t p)
      × Fine w ns (apply (close_at t p) t) (missing_in p a false)
  close-stage t p a f = let u =
      f.left.left.0 in close-keeps t p (both_in p a) f u.member u.here (missing_in p a false)
      (unhide-missing (tree_at w t) p a f.left) f.room

  -- ---- attach

  module _ (t : Words) (p a : ℕ) (f : Fine w ns t (missing_in p a false)) where
    abbrev k : ℕ
    k = (node_view t (node_view t a).sibling).fence

    abbrev b : ℕ
    b = (node_view t a).sibling

    lacks : MissingOnly (tree_at w t) p a
    lacks = f.left.left.2

    use-p : Usable t p
    use-p = reached-usable w t p f.header f.left.orderly lacks.member

    p-shows : (node_view t p).hidden ≡ 0
    p-shows = each-mem (λ (n : ℕ). (node_view t n).hidden ≡ 0) f.left.left.0 lacks.member

    p-keeps : kept (tree_at w t) p ≡ (node_view t p).shown
    p-keeps = each-mem (λ (n : ℕ). kept (tree_at w t) n ≡ (node_view t n).shown) f.left.left.1 lacks.member

    room-p : length (node_view t p).shown ≤ 10
    unfolding room
    room-p = leb-true _ _ f.room

    new-shown : AllShown (node_view t p).left (with_slot t p k b)
    new-shown =
        let u = (elem-cons b (node_view t p).left (pointers (node_view t p).shown)).0
        (ap (λ (ks : List Slot). elem b ((node_view t p).left ∷ pointers ks)) (sym p-keeps) ∙ attach-fresh (tree_at w t) p a f.left) in
        put-in-shown (node_view t p).left (node_view t p).shown (place_of k (node_view t p).shown) k b (view-shown t p p-shows)
        (sibling-some (tree_at w t) p a f.left.orderly lacks) u.0 (not-pointed b (node_view t p).shown u.1)

    attaching : Until do_store (λ (t' : Words). (h : ℕ) × (h ≤ 1) × Changed t p (node_view t p).shown h t')
        (Changed t p (with_slot t p k b) 0) (attach t p a) t
    unfolding attach
    attaching = shift-in-view t p use-p.there use-p.clear use-p.left p-shows k b room-p new-shown

    pub attach-changed :
        Changed t p (with_slot t p (node_view t (node_view t a).sibling).fence (node_view t a).sibling) 0 (apply (attach t p a) t)
    attach-changed = after-whole _ (Changed t p (with_slot t p k b) 0) (attach t p a) t attaching

    pub attach-seen : tree_at w (apply (attach t p a) t)
        ≡ with_shown (tree_at w t) p (with_slot t p (node_view t (node_view t a).sibling).fence (node_view t a).sibling)
    attach-seen = shown-view w f.low t p (with_slot t p k b) 0 (apply (attach t p a) t) attach-changed p-shows

    -- (b) without slots to cut: the sibling's slot is shifted in at the parent
    pub attach-phase : Phase w ns 27 t (attach t p a) (map_at w t)
    attach-phase = phase-until w ns 27 t (attach t p a) (unfold attach in shift-in-few t p k b room-p)
        (unfold attach in shift-in-inside t p k b room-p use-p.there) (map_at w t)
        (until-map do_store _ (SoundWith w ns (map_at w t)) _ (SettledWith w ns (map_at w t))
        (may-hide w ns t p (missing_in p a false) (both_in p a) f p-shows (hide-missing (tree_at w t) p a f.left) f.room)
        (λ t' c. view-settles w ns t t' _ (shown-view w f.low t p _ 0 t' c p-shows) c.header f (map_at w t)
        (keeps-settles (tree_at w t) _ (attach-settles (tree_at w t) p a f.left))) (attach t p a) t attaching)

    -- every level stays, and only the one below p has a node that lacks its slot
    pub attach-calm : (l j : ℕ) → CalmAt (tree_at w) p l t (apply (take j (attach t p a)) t)
    attach-calm l =
        let k = attach-settles (tree_at w t) p a f.left in
        each-part (CalmAt (tree_at w) p l t) (attach t p a) t (until-map do_store _ (CalmAt (tree_at w) p l t) _ (CalmAt (tree_at w) p l t)
        (λ t' u. record {
          same = hidden-still w f.low t p l u.0 t' u.2;
          straight = λ z. hidden-keeps w f.low t p l u.0 t' u.2 (only-straight (tree_at w t) p a lacks l z);
        })
        (λ t' c. let q = slots-quiet w f.low t p l _ 0 t' c k.reached (none-straight _ k.left.left.2 l) in record
        { same = q.same; straight = λ z. q.straight }) (attach t p a) t attaching)

  -- ---- cut

  module _ (t : Words) (p a : ℕ) (f : Fine w ns t (missing_in p a true)) where
    abbrev v : View
    v = tree_at w t

    abbrev place : ℕ
    place = place_of (v.node (v.node a).sibling).fence (v.node a).shown

    missing : MissingOnly v p a
    missing = f.left.left.2

    a-there : Memᴰ a (reached v)
    a-there = a-reached v p a f.left.orderly missing

    use-a : Usable t a
    use-a = reached-usable w t a f.header f.left.orderly a-there

    good-a : Good v a
    good-a = each-mem (Good v) f.left.orderly.good a-there

    b-some : (v.node a).sibling ≢ 0
    b-some = sibling-some v p a f.left.orderly missing

    a-shows : (v.node a).hidden ≡ 0
    a-shows = each-mem (λ (n : ℕ). (v.node n).hidden ≡ 0) f.left.left.0 a-there

    -- the place is behind the kept slots, and some slots are from it on
    place-in : place < length (v.node a).shown
    place-in =
        let z : length (kept v a) ≢ length (v.node a).shown = λ e. f.left.left.1.here ((kept-whole v a).0 e) in
        omega (arith, cut-place v a good-a b-some, ap length (shown-split v a good-a), length-append (kept v a) (ignored v a))

    pub cut-changed : Changed t a (kept (tree_at w t) a) 0 (apply (cut_off t a) t)
    unfolding cut_off apply
    cut-changed = rw (← kept-take v a good-a b-some) at (cut-view t a use-a.there use-a.clear place a-shows place-in)

    pub cut-seen : tree_at w (apply (cut_off t a) t) ≡ with_shown (tree_at w t) a (kept (tree_at w t) a)
    cut-seen = shown-view w f.low t a (kept v a) 0 (apply (cut_off t a) t) cut-changed a-shows

    cuts : Keeps v (with_shown v a (kept v a)) (missing_in p a false)
    cuts = cut-keeps v p a f.left

    pub cut-fine : Fine w ns (apply (cut_off t a) t) (missing_in p a false)
    cut-fine = view-fine w ns t _ _ cut-seen cut-changed.header f (missing_in p a false) cuts.left (cuts.room f.room)
        (rw cuts.reached f.apart)

    -- (b) with slots to cut: one store
    pub cut-stage : Stage w ns 2 t (cut_off t a)
    cut-stage = stage-until w ns 2 t (cut_off t a) (unfold cut_off orders orders_after in omega arith) in-table
        (unfold cut_off apply in
        (((missing_in p a true, f), refl), view-keeps w ns t _ _ cut-seen cut-changed.header f (missing_in p a false) cuts f.room))
      where
        in-table : StoresInside (length t) (cut_off t a)
        in-table = unfold cut_off node_start in (omega (arith, place-in, shown-few t a use-a.clear, (has-node-iff t a).0 use-a.there), tt)

    pub cut-calm : (l j : ℕ) → CalmAt (tree_at w) p l t (apply (take j (cut_off t a)) t)
    cut-calm l = each-part (CalmAt (tree_at w) p l t) (cut_off t a) t
        (unfold cut_off apply in (record { same = same-refl l v; straight = only-straight v p a missing l }, cut-at))
      where
        cut-at : CalmAt (tree_at w) p l t (apply (cut_off t a) t)
        cut-at = record {
          same = slots-still w f.low t a l (kept v a) 0 _ cut-changed cuts.reached;
          straight = λ z. (slots-quiet w f.low t a l (kept v a) 0 _ cut-changed cuts.reached
              (only-straight (with_shown v a (kept v a)) p a cuts.left.left.2 l z)).straight;
        }

    -- the attach after it is the one that the uncut table has
    pub cut-attach : attach (apply (cut_off t a) t) p a ≡ attach t p a
    unfolding attach
    cut-attach =
        let t' = apply (cut_off t a) t in
        let c = cut-changed.node in
        let e : (node_view t' a).sibling ≡ (v.node a).sibling = sibling-eq c.here in
        let q : (node_view t' (node_view t' a).sibling).fence ≡ (v.node (v.node a).sibling).fence =
        ap (fence_of (tree_at w t')) e ∙ stays-all (λ (m : NodeView). m.fence) _ _ a _ c refl (v.node a).sibling in
        let same = c.else p (parent-other v p a f.left.orderly missing) in
        ap (λ (j : ℕ). shift_in_at t' p j (node_view t' a).sibling) q ∙ ap (shift_in_at t' p (v.node (v.node a).sibling).fence) e
        ∙ shift-in-same t t' p (v.node (v.node a).sibling).fence (v.node a).sibling (left-eq same) (shown-eq same)

  -- ---- repair

  -- the leftover of a sound table decides its repair
  pub repair-of : (t : Words) (y : Leftover) → Fine w ns t y → repair_at w t ≡ repair_of t (some y)
  unfolding repair_at
  repair-of t y f = ap (repair_of t) ((has-left-iff (tree_at w t) y).1 f.left).1

  phase-of : (t : Words) (y : Leftover) → Fine w ns t y → Phase w ns 51 t (repair_of t (some y)) (map_at w t)
  unfolding repair_of
  phase-of t nothing f = phase-within w ns 0 51 t [] (map_at w t) (omega arith) (phase-nil w ns t (f))
  phase-of t (hidden_in x) f = phase-within w ns 24 51 t (close_at t x) (map_at w t) (omega arith) (close-phase t x f)
  phase-of t (missing_in p a false) f = phase-within w ns 27 51 t (attach t p a) (map_at w t) (omega arith) (attach-phase t p a f)
  phase-of t (missing_in p a true) f =
      phase-within w ns 29 51 t (cut_off t a ++ attach t p a) (map_at w t) (omega arith)
      (rw (cut-attach t p a f) at
      (stage-phase w ns 2 27 t (cut_off t a) (attach (apply (cut_off t a) t) p a) (map_at w t) (cut-stage t p a f)
      (rw (stage-whole w ns 2 t (cut_off t a) (cut-stage t p a f)).1 at (attach-phase (apply (cut_off t a) t) p a (cut-fine t p a f)))))
  phase-of t (both_in p a) f =
      let u = close-stage t p a f in
      stage-phase w ns 24 27 t (close_at t p) (attach (apply (close_at t p) t) p a) (map_at w t) u.0
      (rw (stage-whole w ns 24 t (close_at t p) u.0).1 at (attach-phase (apply (close_at t p) t) p a u.1))

  -- Repair of a sound table: every first part of its stores leaves a sound table with the same map, and all of them a settled one.
  pub repair-phase : (t : Words) → Sound w ns t → Phase w ns 51 t (repair_at w t) (map_at w t)
  repair-phase t s = let u = s in rw (repair-of t u.0 u.1) (phase-of t u.0 u.1)

  pub repaired-settled : (t : Words) → Sound w ns t → Fine w ns (repaired_at w t) nothing
  unfolding repaired_at
  repaired-settled t s = (repair-phase t s).settles
