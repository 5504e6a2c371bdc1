-- An empty leaf freed, store by store: sound with the same map, settled at the end, and the leaf reached no more.
use Rattle.std.proofs.Common.{◌≡◌, ℕ, suc, ◌-◌, ◌<◌, Bool, true, false, ltb, ◌≢◌, ◌⊎◌, List, [], ◌∷◌, ◌++◌, length, get_or, take, drop, set}
use Rattle.std.proofs.Common.{sym, refl, ap, ◌∙◌, subst, inl, inr, ⊎_elim, append-nil, arith, length-append, take_all, ltb-false, ltb-true}
use Rattle.std.proofs.Common.{le-leb}
use mathlib.Core.List.{map-append, Memᴰ}
use mathlib.Core.Option.{some}
use lib.Seq.{split_at}
use Rattle.model.specs.Table.{Words, node_start, has_node}
use Rattle.model.specs.Slots.{Slot, slot, View, node_view}
use Rattle.model.specs.Reached.{pointers, children, reached, mapping}
use Rattle.model.specs.SoundTest.{elem, distinct, nothing, missing_in, both_in, leftover, room}
use Rattle.model.specs.Orders.{Store, put, apply, orders, orders_after}
use Rattle.model.specs.Shifts.{last_pointer, place_of, shift_out}
use Rattle.model.specs.Writes.{shift_out_at, child_before, free_stores}
use Rattle.view_laws.proofs.NodeViews.{sibling_of, level_of, shown_of}
use Rattle.list_laws.proofs.Lists.{take-append}
use Rattle.list_laws.proofs.Tools.{Each-append}
use Rattle.list_laws.proofs.Members.{each-mem, each-take, each-drop, mem-each}
use Rattle.list_laws.proofs.Distinct.{distinct-middle}
use Rattle.list_laws.proofs.Steps.{Until, AtFirst, first-map}
use Rattle.table_laws.proofs.Nodes.{has-node-iff}
use Rattle.slot_laws.proofs.Hiding.{Used, AllShown, distinct-shown}
use Rattle.word_laws.proofs.Stores.{do_store, between-first, after-first}
use Rattle.word_laws.proofs.Frames.{SameHeader, same-nodes}
use Rattle.word_laws.proofs.ShiftViews.{Changed, without_slot, view-used, shift-out-view}
use Rattle.word_laws.proofs.LinkStores.{sibling-view, sibling-header}
use Rattle.tree_laws.proofs.Leftovers.{NothingUnfinished}
use Rattle.cut_laws.proofs.Applying.{apply-append}
use Rattle.change_laws.proofs.Updates.{update-at, update-off, with_shown, with_hidden, with_sibling, sibling-change}
use Rattle.change_laws.proofs.Parts.{has-left-iff, all-finished, Keeps}
use Rattle.change_laws.proofs.Hiding.{hide-missing}
use Rattle.change_laws.proofs.Parents.{child-reached, child-level, distinct-children}
use Rattle.change_laws.proofs.Detach.{detach, child-next, before-child}
use Rattle.change_laws.proofs.Splice.{splice, mem-splice}
use Rattle.change_laws.proofs.Unlink.{Unlinked, unlink, unlink-reached}
use Rattle.step_laws.proofs.Phase.{Phase}
use Rattle.step_laws.proofs.Stages.{SoundWith, SettledWith, Stage, stage-until, stage-phase, phase-until}
use Rattle.step_laws.proofs.Bounds.{shift-out-few, shift-out-inside}
use Rattle.step_laws.proofs.Rowwise.{OnRow, Same, same-refl, sibling-row, none-straight, only-straight}
use Rattle.step_laws.proofs.LevelCourses.{QuietAt, Quiet, CalmAt, Skipped, Skip, whole as whole_part, each-part, each-first-part}
use Rattle.step_laws.proofs.LevelCourses.{calm-still, calm-quiet, quiet-append}
use Rattle.step_laws.proofs.SlotCourses.{hidden-quiet, slots-still, slots-quiet, seen-quiet}
use Rattle.step_laws.proofs.LinkCourses.{splice-cases}
use Rattle.step_laws.proofs.Repair.{sibling-some, a-reached}
use Rattle.step_laws.proofs.Views.{changed-view, shown-view, same-view, view-fine, view-sound, view-same, Usable, reached-usable, shown-few}
use Rattle.step_laws.proofs.TreeAt.{Avoids, tree_at, Fine, map_at, same-word}

-- what holds before, between and after the stores alike
first-until : (P : Words → Type 0) (qs : List Store) (t : Words) → AtFirst do_store P P P qs t → Until do_store P P qs t
first-until P [] t a = a
first-until P (q ∷ qs) t a = a

same-from : (l : ℕ) (v v' w : View) → v ≡ v' → Same l v' w → Same l v w
same-from l v v' w e s = rw e s

skipped-is : (l a b : ℕ) (v v' w w' : View) → v ≡ v' → w ≡ w' → Skipped l a b v' w' → Skipped l a b v w
skipped-is l a b v v' w w' e f s = rw (e, f) s

-- x lacks its slot in p, an ordinary leftover, and every node that t reaches is reached
pub record Lacks (w : ℕ) (t : Words) (p x : ℕ) (t' : Words) : Type 0 where
  pub leftover : (leftover (tree_at w t') ≡ some (both_in p (child_before (tree_at w t) p x)))
      ⊎ (leftover (tree_at w t') ≡ some (missing_in p (child_before (tree_at w t) p x) false))
  pub reached : reached (tree_at w t') ≡ reached (tree_at w t)

module _ (w : ℕ) (ns : List ℕ) where
  -- p, on level 1, has the empty leaf x as the child of the slot whose key is x's fence
  pub record Freeable (t : Words) (p x : ℕ) : Type 0 where
    pub settled : Fine w ns t nothing
    pub parent : Memᴰ p (reached (tree_at w t))
    pub level : (node_view t p).level ≡ 1
    pub there : place_of (node_view t x).fence (node_view t p).shown < length (node_view t p).shown
    pub child : (get_or (node_view t p).shown (place_of (node_view t x).fence (node_view t p).shown) (slot 0 0)).pointer ≡ x
    pub empty : (node_view t x).shown ≡ []

  module _ (t : Words) (p x : ℕ) (h : Freeable t p x) where
    abbrev v : View
    v = tree_at w t

    abbrev k : ℕ
    k = (v.node x).fence

    abbrev ss : List Slot
    ss = (v.node p).shown

    abbrev low : List Slot
    low = take (place_of k ss) ss

    abbrev sl : Slot
    sl = get_or ss (place_of k ss) (slot 0 0)

    abbrev high : List Slot
    high = drop (suc (place_of k ss)) ss

    abbrev a : ℕ
    a = last_pointer (v.node p).left low

    abbrev less : View
    less = with_shown v p (low ++ high)

    fine : Fine w ns t nothing
    fine = h.settled

    use-p : Usable t p
    use-p = reached-usable w t p fine.header fine.left.orderly h.parent

    fin : NothingUnfinished v p
    fin = each-mem (NothingUnfinished v) (all-finished v fine.left) h.parent

    shape : ss ≡ low ++ sl ∷ high
    shape = split_at ss (place_of k ss) (slot 0 0) h.there

    det : Keeps v less (missing_in p a false)
    det = detach v p low sl high fine.left h.parent 0 h.level shape

    roomy : room less p ≡ true
    unfolding room
    roomy = rw (update-at (shown_of v) p (low ++ high))
        (le-leb (length (low ++ high)) 10
        (omega (arith, shown-few t p use-p.clear, ap length shape, length-append low (sl ∷ high), length-append low high)))

    -- ---- shift out at the parent

    kids : distinct ((v.node p).left ∷ pointers ss) ≡ true
    kids = rw (fin.names (λ z. omega (arith, h.level)) ∙ ap (λ (ks : List Slot). (v.node p).left ∷ pointers ks) fin.keeps) at
        (distinct-children v p fine.left.orderly h.parent)

    out-shown : AllShown (v.node p).left (without_slot t p k)
    out-shown =
        let u = view-used t p in
        let e : pointers ss ≡ pointers low ++ sl.pointer ∷ pointers high = ap pointers shape ∙ map-append _ low (sl ∷ high) in
        let d = ((distinct-middle sl.pointer ((v.node p).left ∷ pointers low) (pointers high)).0 (rw e at kids)).1 in
        distinct-shown (v.node p).left (low ++ high)
        (Each-append Used low high (each-take Used (place_of k ss) ss u) (each-drop Used (suc (place_of k ss)) ss u))
        (ap (λ (l : List ℕ). distinct ((v.node p).left ∷ l)) (map-append _ low high) ∙ d)

    shifting : AtFirst do_store (Changed t p ss 0) (Changed t p (without_slot t p k) 1)
        (Changed t p (without_slot t p k) 0) (shift_out_at t p k) t
    shifting = shift-out-view t p use-p.there use-p.clear use-p.left fin.shows k h.there out-shown

    stores-some : 0 < length (shift_out_at t p k)
    stores-some = unfold shift_out_at shift_out in omega arith

    unchanged : (t' : Words) → Changed t p ss 0 t' → SoundWith w ns (map_at w t) t'
    unchanged t' c = view-same w ns t t' nothing fine (same-view w fine.low t p ss 0 t' c refl fin.shows) c.header

    hiding : (t' : Words) → Changed t p (without_slot t p k) 1 t' → SoundWith w ns (map_at w t) t'
    hiding t' c =
        let b = hide-missing less p a det.left in
        view-sound w ns t t' (with_hidden less p 1) (changed-view w fine.low t p (without_slot t p k) 1 t' c) c.header fine
        (both_in p a) b.left (b.room roomy) (rw (b.reached, det.reached) fine.apart) (map_at w t) (b.mapping ∙ det.mapping)

    gone : (t' : Words) → Changed t p (without_slot t p k) 0 t' → SoundWith w ns (map_at w t) t'
    gone t' c = view-sound w ns t t' less (shown-view w fine.low t p (without_slot t p k) 0 t' c fin.shows) c.header fine
        (missing_in p a false) det.left roomy (rw det.reached fine.apart) (map_at w t) det.mapping

    out-stage : Stage w ns 25 t (shift_out_at t p k)
    out-stage =
        let few = shown-few t p use-p.clear in
        let P : Words → Type 0 = SoundWith w ns (map_at w t) in
        stage-until w ns 25 t (shift_out_at t p k) (shift-out-few t p k few h.there) (shift-out-inside t p k few h.there use-p.there)
        (first-until P (shift_out_at t p k) t (first-map do_store _ P _ P _ P unchanged hiding gone (shift_out_at t p k) t shifting))

    -- ---- the left neighbour's sibling := x's

    abbrev t₁ : Words
    t₁ = apply (shift_out_at t p k) t

    out-changed : Changed t p (without_slot t p k) 0 t₁
    out-changed = after-first (Changed t p ss 0) (Changed t p (without_slot t p k) 1) (Changed t p (without_slot t p k) 0)
        (shift_out_at t p k) t shifting stores-some

    seen₁ : tree_at w t₁ ≡ less
    seen₁ = shown-view w fine.low t p (without_slot t p k) 0 t₁ out-changed fin.shows

    fine₁ : Fine w ns t₁ (missing_in p a false)
    fine₁ = view-fine w ns t t₁ less seen₁ out-changed.header fine (missing_in p a false) det.left roomy (rw det.reached fine.apart)

    a-child : Memᴰ a (children v p)
    a-child = before-child v p low sl high fine.left h.parent 0 h.level shape

    next : (v.node a).sibling ≡ x
    next = child-next v p low sl high fine.left h.parent 0 h.level shape ∙ h.child

    a-leaf : (v.node a).level ≡ 0
    a-leaf = omega (arith, child-level v p a fine.left.orderly h.parent a-child, h.level)

    apart : x ≢ p
    apart e = omega (arith, h.there, ap length (ap (shown_of v) (sym e) ∙ h.empty))

    gap : Unlinked less (with_sibling less a (v.node x).sibling) x
    gap = subst (λ (n : ℕ). Unlinked less (with_sibling less a (v.node n).sibling) n) next
        (unlink less p a det.left a-leaf (ap (shown_of less) next ∙ update-off (shown_of v) p (low ++ high) x apart ∙ h.empty))

    abbrev over : View
    over = with_sibling less a (v.node x).sibling

    reached-over : reached less ≡ splice a x (reached over)
    reached-over = subst (λ (n : ℕ). reached less ≡ splice a n (reached (with_sibling less a (v.node n).sibling))) next
        (unlink-reached less p a det.left a-leaf (ap (shown_of less) next ∙ update-off (shown_of v) p (low ++ high) x apart ∙ h.empty))

    over-apart : Avoids ns over
    over-apart =
        let e : Avoids ns less = rw det.reached fine.apart in
        mem-each (λ (n : ℕ). elem n ns ≡ false) (reached over)
        (λ n m. let y : Memᴰ n (reached less) = rw reached-over (mem-splice a x n (reached over) m) in each-mem
        (λ (n : ℕ). elem n ns ≡ false) e y)

    has-a : has_node t₁ a ≡ true
    has-a = (reached-usable w t₁ a fine₁.header fine₁.left.orderly
        (rw (ap reached seen₁ ∙ det.reached) (child-reached v p a fine.left.orderly h.parent a-child))).there

    abbrev t₂ : Words
    t₂ = set t₁ (suc (node_start a)) (v.node x).sibling

    header₂ : SameHeader t₁ t₂
    header₂ = sibling-header t₁ a (v.node x).sibling has-a

    seen₂ : tree_at w t₂ ≡ with_sibling less a (v.node x).sibling
    seen₂ =
        sibling-change (tree_at w t₁) (tree_at w t₂) a (v.node x).sibling (same-nodes header₂) (same-word w fine.low header₂)
        (sibling-view t₁ a (v.node x).sibling has-a)
        ∙ ap (λ (w : View). with_sibling w a (v.node x).sibling) seen₁

    settles : SettledWith w ns (map_at w t) t₂
    settles =
        let f = view-fine w ns t₁ t₂ (with_sibling less a (v.node x).sibling) seen₂ header₂ fine₁ nothing gap.left refl over-apart in
        (f, ap mapping seen₂ ∙ gap.mapping ∙ det.mapping)

    link-phase : Phase w ns 2 t₁ (put (suc (node_start a)) (v.node x).sibling ∷ []) (map_at w t)
    link-phase = phase-until w ns 2 t₁ (put (suc (node_start a)) (v.node x).sibling ∷ []) (unfold orders orders_after in omega arith)
        (unfold node_start in omega (arith, (has-node-iff t₁ a).0 has-a), tt) (map_at w t)
        (((missing_in p a false, fine₁), refl), settles)

    -- An empty leaf is freed: every first part of the stores leaves a sound table with the same map, and all of them a settled one.
    pub free-phase : Phase w ns 27 t (free_stores t p x) (map_at w t)
    unfolding free_stores child_before
    free-phase = stage-phase w ns 25 2 t (shift_out_at t p k) (put (suc (node_start a)) (v.node x).sibling ∷ [])
        (map_at w t) out-stage link-phase

    -- ---- what it leaves

    whole : apply (free_stores t p x) t ≡ t₂
    unfolding free_stores child_before apply
    whole = apply-append (shift_out_at t p k) (put (suc (node_start a)) (v.node x).sibling ∷ []) t

    seen : tree_at w (apply (free_stores t p x) t) ≡ with_sibling less a (v.node x).sibling
    seen = ap (tree_at w) whole ∙ seen₂

    -- The leaf is reached no more, and no other node is lost.
    pub free-unreached : elem x (reached (tree_at w (apply (free_stores t p x) t))) ≡ false
    free-unreached = ap (λ (w : View). elem x (reached w)) seen ∙ gap.freed

    -- after the stores that free a leaf one node fewer is reached
    pub free-fewer : length (reached (tree_at w t)) ≡ suc (length (reached (tree_at w (apply (free_stores t p x) t))))
    free-fewer = ap length (sym det.reached) ∙ gap.fewer ∙ ap (λ (w : View). suc (length (reached w))) (sym seen)

    -- after the stores that free leaf x the same other nodes are reached
    pub free-others : (n : ℕ) → n ≢ x → elem n (reached (tree_at w (apply (free_stores t p x) t))) ≡ elem n (reached (tree_at w t))
    free-others n z = ap (λ (w : View). elem n (reached w)) seen ∙ gap.others n z ∙ ap (elem n) det.reached

    -- the left neighbour, which the last store is to
    pub neighbour-reached : Memᴰ (child_before (tree_at w t) p x) (reached (tree_at w t))
    unfolding child_before
    neighbour-reached = child-reached v p a fine.left.orderly h.parent a-child

    -- ---- a cut in between

    hidden-left : (t' : Words) → Changed t p (without_slot t p k) 1 t' → Lacks w t p x t'
    unfolding child_before
    hidden-left t' c =
        let b = hide-missing less p a det.left in
        let e = changed-view w fine.low t p (without_slot t p k) 1 t' c in
        record {
          leftover = inl (ap leftover e ∙ ((has-left-iff (with_hidden less p 1) (both_in p a)).1 b.left).1);
          reached = ap reached e
              ∙ b.reached ∙ det.reached;
        }

    missing-left : Lacks w t p x t₁
    unfolding child_before
    missing-left = record {
      leftover = inr (ap leftover seen₁ ∙ ((has-left-iff less (missing_in p a false)).1 det.left).1);
      reached = ap reached seen₁ ∙ det.reached;
    }

    first-parts : (j : ℕ) → j < length (free_stores t p x) → take j (free_stores t p x) ≡ take j (shift_out_at t p k)
    unfolding free_stores child_before
    first-parts j i =
        let ps : List Store = put (suc (node_start (child_before v p x))) (v.node x).sibling ∷ [] in
        let n : j - length (shift_out_at t p k) ≡ 0 = omega (arith, i, length-append (shift_out_at t p k) ps) in
        take-append j (shift_out_at t p k) ps ∙ ap (λ (m : ℕ). take j (shift_out_at t p k) ++ take m ps) n
        ∙ append-nil (take j (shift_out_at t p k))

    -- After the parent's first store and before the last one x lacks its slot.
    pub free-cut : (j : ℕ) → 0 < j → j < length (free_stores t p x) → Lacks w t p x (apply (take j (free_stores t p x)) t)
    free-cut j g i = rw (first-parts j i) (go (ltb j (length (shift_out_at t p k))) refl)
      where
        go : (b : Bool) → ltb j (length (shift_out_at t p k)) ≡ b → Lacks w t p x (apply (take j (shift_out_at t p k)) t)
        go true e = hidden-left _
            (between-first (Changed t p ss 0) (Changed t p (without_slot t p k) 1) (Changed t p (without_slot t p k) 0) (shift_out_at t p k)
            t shifting j g (ltb-true j (length (shift_out_at t p k)) e))
        go false e = rw (take_all j (shift_out_at t p k) (ltb-false j (length (shift_out_at t p k)) e)) missing-left

    -- ---- x is passed over; the other levels are quiet

    level-p : (l : ℕ) → l ≢ 0 → (v.node p).level ≢ suc l
    level-p l z e = z (omega (arith, h.level))

    -- every level stays, and only level 0 has a node that lacks its slot
    out-calm : (l j : ℕ) → CalmAt (tree_at w) p l t (apply (take j (shift_out_at t p k)) t)
    out-calm l = each-first-part (CalmAt (tree_at w) p l t) (shift_out_at t p k) t
        (first-map do_store _ (CalmAt (tree_at w) p l t) _ (CalmAt (tree_at w) p l t) _ (CalmAt (tree_at w) p l t)
        (λ t' c. let q = hidden-quiet w fine.low t p l (none-straight v fine.left.left.2 l) 0 t' c in record
        { same = q.same; straight = λ z. q.straight }) (calm 1) (calm 0) (shift_out_at t p k) t shifting)
      where
        calm : (i : ℕ) (t' : Words) → Changed t p (without_slot t p k) i t' → CalmAt (tree_at w) p l t t'
        calm i t' c = record {
          same = slots-still w fine.low t p l _ i t' c det.reached;
          straight = λ z. (slots-quiet w fine.low t p l _ i t' c det.reached (only-straight less p a det.left.left.2 l z)).straight;
        }

    a-row : OnRow less 0 a
    a-row = (a-reached less p a det.left.orderly det.left.left.2, a-leaf)

    x-row : OnRow less 0 x
    x-row = rw next at (sibling-row less det.left.orderly 0 a a-row (sibling-some less p a det.left.orderly det.left.left.2))

    keep : (l n : ℕ) → OnRow less l n → n ≢ x → OnRow over l n
    keep l n r z = (⊎_elim (λ e. absurd (z e)) (λ m. m) (splice-cases a x n (reached over) (rw reached-over at r.0)), r.1)

    skipped : Skipped 0 a x less over
    skipped = record {
      a-row = a-row;
      b-row = x-row;
      next = next;
      row = keep 0;
      level = λ n. refl;
      fence = λ n. refl;
      a-sibling = update-at (sibling_of v) a (v.node x).sibling;
      sibling = λ n z. update-off (sibling_of v) a (v.node x).sibling n z;
      b-left = refl;
      b-shown = refl;
    }

    unlink-same : (l : ℕ) → l ≢ 0 → Same l less over
    unlink-same l z = record {
      there = λ n r. keep l n r (λ e. z (sym r.1 ∙ ap (level_of v) e ∙ x-row.1));
      back = λ n r. (rw reached-over (mem-splice a x n (reached over) r.0), r.1);
      fence = λ n r. refl;
      sibling = λ n r. update-off (sibling_of v) a (v.node x).sibling n (λ e. z (sym r.1 ∙ ap (level_of v) e ∙ a-leaf));
    }

    -- while a leaf is freed, the levels above it are quiet
    pub free-quiet : (l : ℕ) → l ≢ 0 → Quiet (tree_at w) l t (free_stores t p x)
    unfolding free_stores child_before
    free-quiet l z = quiet-append (tree_at w) l t (shift_out_at t p k) (put (suc (node_start a)) (v.node x).sibling ∷ [])
        (calm-quiet (tree_at w) p l t _ (out-calm l) (level-p l z))
        (each-part (QuietAt (tree_at w) l t₁) (put (suc (node_start a)) (v.node x).sibling ∷ []) t₁ (
          record {
            same = same-refl l (tree_at w t₁);
            straight = (whole_part (CalmAt (tree_at w) p l t) (shift_out_at t p k) t (out-calm l)).straight (level-p l z);
          },
          seen-quiet w l t₁ t₂ over seen₂ (same-from l (tree_at w t₁) less over seen₁ (unlink-same l z))
              (none-straight over gap.left.left.2 l),
        ))

    -- while a leaf is freed, level 0 stays as it is, until the last store passes over the leaf
    pub free-skip : Skip (tree_at w) 0 t (free_stores t p x)
    unfolding free_stores child_before
    free-skip = record {
      a = a;
      b = x;
      before = shift_out_at t p k;
      it = put (suc (node_start a)) (v.node x).sibling;
      shape = refl;
      still = calm-still (tree_at w) p 0 t _ (out-calm 0);
      skips = skipped-is 0 a x (tree_at w t₁) less (tree_at w t₂) over seen₁ seen₂ skipped;
    }
