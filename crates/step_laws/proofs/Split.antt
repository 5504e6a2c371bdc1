-- A full node split: every store leaves a sound table with the same map, and the last a settled one.
use Rattle.std.proofs.Common.{◌≡◌, ℕ, zero, suc, ◌<◌, ◌≤◌, Bool, true, false, cond, eqb, ltb, ◌≢◌, List, [], ◌∷◌, ◌++◌, length, take, drop}
use Rattle.std.proofs.Common.{set, sym, refl, ap, ◌∙◌, arith, length-drop, length-take-le, drop-cons, ltb-false, ltb-true, lt-ltb, eq-eqb}
use Rattle.std.proofs.Common.{ne_eqb, le-leb}
use mathlib.Core.List.{Memᴰ}
use lib.Seq.{split_at}
use Rattle.model.specs.Table.{MARK, Words, node_start, has_node}
use Rattle.model.specs.Slots.{Slot, slot, NodeView, node_view, View, height}
use Rattle.model.specs.Search.{below}
use Rattle.model.specs.Reached.{pointers, kept, reached, mapping}
use Rattle.model.specs.SoundTest.{elem, nothing, missing_in, room}
use Rattle.model.specs.Orders.{Store, put, apply, orders_after, orders}
use Rattle.model.specs.Shifts.{pointer_word, last_pointer, place_of}
use Rattle.model.specs.Writes.{shift_in_at, put_all, node_words, middle, split_words, split, cut_off, attach}
use Rattle.view_laws.proofs.NodeViews.{sibling_of, level_of, fence_of, shown_of, fence-eq, left-eq, level-eq, shown-eq, sibling-eq}
use Rattle.list_laws.proofs.Tools.{or-right, Each, Each-split}
use Rattle.list_laws.proofs.Members.{each-mem, elem-false}
use Rattle.list_laws.proofs.Distinct.{once, distinct-cons}
use Rattle.list_laws.proofs.Lists.{each-map}
use Rattle.table_laws.proofs.Nodes.{has-node-iff}
use Rattle.slot_laws.proofs.Hiding.{AllShown, all-split}
use Rattle.word_laws.proofs.Frames.{SameHeader, same-nodes}
use Rattle.word_laws.proofs.LinkStores.{sibling-view, sibling-header}
use Rattle.word_laws.proofs.NewNodes.{length-node-words}
use Rattle.word_laws.proofs.ShiftViews.{with_slot, view-shown, shift-in-same}
use Rattle.tree_laws.proofs.Rows.{Good}
use Rattle.tree_laws.proofs.Kept.{cut-place}
use Rattle.tree_laws.proofs.Levels.{Orderly, mem-leaves}
use Rattle.tree_laws.proofs.Leftovers.{NothingUnfinished}
use Rattle.tree_laws.proofs.SearchLaw.{Stands}
use Rattle.tree_laws.proofs.MapLaw.{leaf-pointers}
use Rattle.cut_laws.proofs.Applying.{apply-append}
use Rattle.change_laws.proofs.Parts.{all-finished}
use Rattle.change_laws.proofs.Updates.{update-at, update-off, with_shown, with_sibling, sibling-change}
use Rattle.change_laws.proofs.Splice.{splice, mem-splice, splice-elem, length-splice, splice-in}
use Rattle.change_laws.proofs.Cut.{cut-keeps}
use Rattle.change_laws.proofs.Attach.{attach-settles}
use Rattle.change_laws.proofs.Parents.{Parent}
use Rattle.change_laws.proofs.Link.{upper_left, upper_slots, upper_part, Splits, Linked, link, link-kept}
use Rattle.step_laws.specs.Parts.{FullNode}
use Rattle.step_laws.proofs.Phase.{Phase}
use Rattle.step_laws.proofs.Stages.{Stage, stage-until, stage-whole, stage-phase}
use Rattle.step_laws.proofs.Views.{view-fine, reached-usable}
use Rattle.step_laws.proofs.Repair.{sibling-some, a-reached, cut-fine, cut-seen, cut-stage, cut-attach, cut-calm, attach-seen, attach-phase}
use Rattle.step_laws.proofs.Repair.{attach-calm}
use Rattle.step_laws.proofs.Fresh.{Free, free-other, free-sibling}
use Rattle.step_laws.proofs.WholeNode.{Stays, whole-stage, whole-stays}
use Rattle.step_laws.proofs.Rowwise.{same-refl, none-straight, only-straight}
use Rattle.step_laws.proofs.LevelCourses.{QuietAt, Quiet, Still, Turn, calm-still, calm-quiet, each-part, still-append, quiet-append}
use Rattle.step_laws.proofs.SlotCourses.{seen-quiet, seen-crosses}
use Rattle.step_laws.proofs.LinkCourses.{splice-each, whole-quiet, link-same, link-crosses}
use Rattle.step_laws.proofs.Standing.{standing-stands, standing-parent, standing-is, stands, stands-same, stays-height, stays-stands}
use Rattle.step_laws.proofs.TreeAt.{tree_at, Fine, map_at, standing_at, same-word}

-- the split of the node on level l that stands for k, into b
abbrev pub split_into : (w : ℕ) → Words → (l k b : ℕ) → List Store
split_into w t l k b = split t (standing_at w t l k) b (standing_at w t (suc l) k)

module _ (w : ℕ) (ns : List ℕ) where
  -- ---- the node that is split

  -- the pointers of a leaf are not MARK
  leaf-marks : (t : Words) (a : ℕ) → Fine w ns t nothing → Memᴰ a (reached (tree_at w t)) → (node_view t a).level ≡ 0
      → Each (λ (s : Slot). s.pointer ≢ MARK) (node_view t a).shown
  leaf-marks t a s m e =
      let l = s.left in
      let d = leaf-pointers (tree_at w t) a l.orderly ((mem-leaves (tree_at w t) a l.orderly).1 (m, e)) in
      let ps = pointers (kept (tree_at w t) a) in
      let k = (each-map (λ (n : ℕ). n ≢ MARK) (λ (s : Slot). s.pointer) (kept (tree_at w t) a)).0
      ((elem-false MARK ps).0 ((distinct-cons MARK ps).0 d).0) in
      rw (each-mem (NothingUnfinished (tree_at w t)) (all-finished (tree_at w t) l) m).keeps at k

  -- what B takes of A, which is full
  module _ (t : Words) (a : ℕ) (s : Fine w ns t nothing) (m : Memᴰ a (reached (tree_at w t)))
      (full : length (node_view t a).shown ≡ 11) where
    abbrev ss : List Slot
    ss = (node_view t a).shown

    shape : ss ≡ take 5 ss ++ middle t a ∷ drop 6 ss
    shape = split_at ss 5 (slot 0 0) (omega arith)

    upper-shape : drop 5 ss ≡ middle t a ∷ drop 6 ss
    upper-shape = drop-cons ss 5 (slot 0 0) (omega arith)

    hides : (node_view t a).hidden ≡ 0
    hides = (each-mem (NothingUnfinished (tree_at w t)) (all-finished (tree_at w t) s.left) m).shows

    upper-shown : AllShown (last_pointer (node_view t a).left (take 5 ss)) (middle t a ∷ drop 6 ss)
    upper-shown = (all-split (node_view t a).left (take 5 ss) (middle t a ∷ drop 6 ss) (rw shape at (view-shown t a hides))).1

    abbrev left : ℕ → ℕ
    left d = upper_left d (middle t a)

    abbrev slots : ℕ → List Slot
    slots d = upper_slots d (middle t a) (drop 6 ss)

    upper-words : split_words t a
        ≡ node_words (left (node_view t a).level) (node_view t a).sibling (node_view t a).level (middle t a).key
        (slots (node_view t a).level)
    unfolding split_words
    upper-words = go (node_view t a).level refl
      where
        go : (d : ℕ) → (node_view t a).level ≡ d → split_words t a
            ≡ node_words (left d) (node_view t a).sibling (node_view t a).level (middle t a).key (slots d)
        go zero e = rw (eq-eqb (node_view t a).level 0 e, split_words, upper-shape)
        go (suc d) e = rw (ne_eqb (node_view t a).level 0 (λ z. omega arith), split_words)

    upper-all : AllShown (left (node_view t a).level) (slots (node_view t a).level)
    upper-all = go (node_view t a).level refl
      where
        go : (d : ℕ) → (node_view t a).level ≡ d → AllShown (left d) (slots d)
        go zero e = (
          upper-shown.0,
          (Each-split (λ (s : Slot). s.pointer ≢ MARK) (take 5 ss) (middle t a ∷ drop 6 ss) (rw shape at (leaf-marks t a s m e))).1.0,
          upper-shown.2,
        )
        go (suc d) e = upper-shown.2

    upper-few : length (slots (node_view t a).level) ≤ 6
    upper-few = go (node_view t a).level
      where
        go : (d : ℕ) → length (slots d) ≤ 6
        go zero = omega (arith, length-drop 6 ss)
        go (suc d) = omega (arith, length-drop 6 ss)

  -- ---- into a free node b

  module _ (t : Words) (s : Fine w ns t nothing) (k l : ℕ) (h : FullNode (tree_at w t) k l) (b : ℕ) (f : Free w ns t b) where
    abbrev v : View
    v = tree_at w t

    abbrev a : ℕ
    a = standing_at w t l k

    abbrev p : ℕ
    p = standing_at w t (suc l) k

    stands-a : Stands v k l a
    stands-a = standing-stands w ns t s k l (omega (arith, h.high))

    stands-p : Stands v k (suc l) p
    stands-p = standing-stands w ns t s k (suc l) h.high

    not-a : a ≡ b → ⊥
    not-a = free-other w ns t b s f a stands-a.reached

    not-p : p ≡ b → ⊥
    not-p = free-other w ns t b s f p stands-p.reached

    -- ---- B's 32 words

    abbrev t₁ : Words
    t₁ = apply (put_all (node_start b) (split_words t a)) t

    abbrev v₁ : View
    v₁ = tree_at w t₁

    abbrev mid : Slot
    mid = middle t a

    abbrev high : List Slot
    high = drop 6 (v.node a).shown

    abbrev d : ℕ
    d = (v.node a).level

    words : split_words t a ≡ node_words (upper_left d mid) (v.node a).sibling d mid.key (upper_slots d mid high)
    words = upper-words t a s stands-a.reached h.full

    few : length (upper_slots d mid high) ≤ 6
    few = upper-few t a s stands-a.reached h.full

    stays : Stays w ns t b (upper_part (v.node a) mid high) t₁
    stays = rw words (whole-stays w ns t b (upper_left d mid) (v.node a).sibling d mid.key (upper_slots d mid high) s f
        (upper-all t a s stands-a.reached h.full) (omega (arith, few)))

    new : node_view t₁ b ≡ upper_part (v.node a) mid high
    new = stays.node.here

    write : Stage w ns 36 t (put_all (node_start b) (split_words t a))
    write = rw words (whole-stage w ns t b (upper_left d mid) (v.node a).sibling d mid.key (upper_slots d mid high) s f)

    s₁ : Fine w ns t₁ nothing
    s₁ = stays.fine

    parent : Parent v₁ a p
    parent =
        let x = standing-is w ns t₁ s₁ k l a (stays-stands w ns t b s f _ t₁ stays k l a stands-a) in
        let y = standing-is w ns t₁ s₁ k (suc l) p (stays-stands w ns t b s f _ t₁ stays k (suc l) p stands-p) in
        let z = standing-parent w ns t₁ s₁ k l (omega (arith, h.high, stays-height w ns t b s f _ t₁ stays)) in
        rw (x, y) at z

    low-length : length (take 5 (v.node a).shown) ≡ 5
    low-length = length-take-le 5 (v.node a).shown (omega (arith, h.full))

    parts : Splits v₁ a b (take 5 (v.node a).shown) (middle t a) (drop 6 (v.node a).shown)
    parts = record {
      a-reached = rw stays.reached stands-a.reached;
      a-shows = shown-eq (stays.node.else a not-a) ∙ shape t a s stands-a.reached h.full;
      some-low = omega (arith, low-length);
      not-root = λ e. omega (arith, ap (level_of v) (sym (same-word w s.low stays.header) ∙ e), stands-a.covers.at.level, h.high);
      b-fresh = rw stays.reached f.unreached;
      b-range = rw (same-nodes stays.header) f.range;
      b-node = new ∙ ap (λ (n : NodeView). upper_part n mid high) (sym (stays.node.else a not-a));
    }

    linked : Linked v₁ (with_sibling v₁ a b) a b p
    linked = link v₁ a b (take 5 (v.node a).shown) (middle t a) (drop 6 (v.node a).shown) p stays.fine.left parts parent

    -- the parent is another node
    other : p ≡ a → ⊥
    other e = omega (arith, stands-p.covers.at.level, ap (level_of v) e, stands-a.covers.at.level)

    -- ---- A's sibling := B

    abbrev t₂ : Words
    t₂ = set t₁ (suc (node_start a)) b

    has-a : has_node t₁ a ≡ true
    has-a = (reached-usable w t₁ a stays.fine.header stays.fine.left.orderly parts.a-reached).there

    linked-header : SameHeader t₁ t₂
    linked-header = sibling-header t₁ a b has-a

    seen₂ : tree_at w t₂ ≡ with_sibling v₁ a b
    seen₂ = sibling-change v₁ (tree_at w t₂) a b (same-nodes linked-header) (same-word w s.low linked-header) (sibling-view t₁ a b has-a)

    roomy₁ : room v₁ p ≡ true
    unfolding room
    roomy₁ = rw (shown-eq (stays.node.else p not-p)) (le-leb (length (v.node p).shown) 10 h.roomy)

    fine₂ : Fine w ns t₂ (missing_in p a true)
    fine₂ = view-fine w ns t₁ t₂ (with_sibling v₁ a b) seen₂ linked-header stays.fine (missing_in p a true) linked.left (linked.room roomy₁)
        (rw linked.reached (splice-each (λ (n : ℕ). elem n ns ≡ false) a b (reached v₁) f.off stays.fine.apart))

    map₂ : map_at w t₂ ≡ map_at w t₁
    map₂ = ap mapping seen₂ ∙ linked.mapping

    link-stage : Stage w ns 2 t₁ (put (suc (node_start a)) b ∷ [])
    link-stage = stage-until w ns 2 t₁ (put (suc (node_start a)) b ∷ []) (unfold orders orders_after in omega arith)
        (unfold node_start in omega (arith, (has-node-iff t₁ a).0 has-a), tt)
        (((nothing, stays.fine), refl), (((missing_in p a true), fine₂), map₂))

    -- ---- A's pointer 5 := 0

    kept-a : kept (tree_at w t₂) a ≡ take 5 (v.node a).shown
    kept-a = ap (λ (x : View). kept x a) seen₂
        ∙ link-kept v₁ a b (take 5 (v.node a).shown) (middle t a) (drop 6 (v.node a).shown) stays.fine.left parts

    cut-there : place_of (node_view t₂ (node_view t₂ a).sibling).fence (node_view t₂ a).shown ≡ 5
    cut-there =
        let o = fine₂.left.orderly in
        let g = fine₂.left.left.2 in
        cut-place (tree_at w t₂) a (each-mem (Good (tree_at w t₂)) o.good (a-reached (tree_at w t₂) p a o g))
        (sibling-some (tree_at w t₂) p a o g) ∙ ap length kept-a ∙ low-length

    cut-same : cut_off t₂ a ≡ put (pointer_word a 5) 0 ∷ []
    unfolding cut_off
    cut-same = ap (λ (n : ℕ). put (pointer_word a n) 0 ∷ []) cut-there

    abbrev t₃ : Words
    t₃ = apply (cut_off t₂ a) t₂

    fine₃ : Fine w ns t₃ (missing_in p a false)
    fine₃ = cut-fine w ns t₂ p a fine₂

    -- ---- B shifted in at the parent

    attach-same : attach t₃ p a ≡ shift_in_at t p (middle t a).key b
    unfolding attach
    attach-same =
        let c = sibling-view t₁ a b has-a in
        let e : (node_view t₂ a).sibling ≡ b = sibling-eq c.here in
        let q : (node_view t₂ (node_view t₂ a).sibling).fence ≡ (middle t a).key =
        ap (fence_of (tree_at w t₂)) e ∙ fence-eq (c.else b (λ z. not-a (sym z))) ∙ fence-eq new in
        let same : node_view t₂ p ≡ node_view t p = c.else p other ∙ stays.node.else p not-p in
        cut-attach w ns t₂ p a fine₂ ∙ ap (λ (j : ℕ). shift_in_at t₂ p j (node_view t₂ a).sibling) q
        ∙ ap (shift_in_at t₂ p (middle t a).key) e
        ∙ shift-in-same t t₂ p (middle t a).key b (left-eq same) (shown-eq same)

    map₃ : map_at w t₃ ≡ map_at w t
    map₃ = (stage-whole w ns 2 t₂ (cut_off t₂ a) (cut-stage w ns t₂ p a fine₂)).1 ∙ map₂ ∙ stays.mapping

    last-phase : Phase w ns 27 t₃ (shift_in_at t p (middle t a).key b) (map_at w t)
    last-phase = rw (attach-same, map₃) at (attach-phase w ns t₃ p a fine₃)

    cut-phase : Phase w ns 29 t₂ (put (pointer_word a 5) 0 ∷ shift_in_at t p (middle t a).key b) (map_at w t)
    cut-phase = rw cut-same at
        (stage-phase w ns 2 27 t₂ (cut_off t₂ a) (shift_in_at t p (middle t a).key b) (map_at w t) (cut-stage w ns t₂ p a fine₂) last-phase)

    link-phase : Phase w ns 31 t₁ (put (suc (node_start a)) b ∷ put (pointer_word a 5) 0 ∷ shift_in_at t p (middle t a).key b) (map_at w t)
    unfolding apply
    link-phase = stage-phase w ns 2 29 t₁ (put (suc (node_start a)) b ∷ []) (put (pointer_word a 5) 0 ∷ shift_in_at t p (middle t a).key b)
        (map_at w t) link-stage cut-phase

    -- Split: every first part of its stores leaves a sound table with the same map.
    pub split-phase : Phase w ns 67 t (split_into w t l k b) (map_at w t)
    unfolding split
    split-phase = stage-phase w ns 36 31 t (put_all (node_start b) (split_words t a)) _ (map_at w t) write link-phase

    -- ---- level l turns as B is linked, the others are quiet

    level₁ : (v₁.node a).level ≡ l
    level₁ = level-eq (stays.node.else a not-a) ∙ stands-a.covers.at.level

    parent₁ : (v₁.node p).level ≡ suc l
    parent₁ = level-eq (stays.node.else p not-p) ∙ stands-p.covers.at.level

    parent₂ : (node_view t₂ p).level ≡ suc l
    parent₂ = ap (λ (x : View). (x.node p).level) seen₂ ∙ parent₁

    parent₃ : (node_view t₃ p).level ≡ suc l
    parent₃ = ap (λ (x : View). (x.node p).level) (cut-seen w ns t₂ p a fine₂) ∙ parent₂

    words-quiet : (d : ℕ) → Quiet (tree_at w) d t (put_all (node_start b) (split_words t a))
    words-quiet = whole-quiet w ns t b s f (split_words t a)
        (ap length words ∙ length-node-words (upper_left d mid) (v.node a).sibling d mid.key (upper_slots d mid high))

    -- after the link
    abbrev rest : List Store
    rest = put (pointer_word a 5) 0 ∷ shift_in_at t p (middle t a).key b

    rest-is : cut_off t₂ a ++ attach t₃ p a ≡ rest
    rest-is = ap (λ (x : List Store). x ++ attach t₃ p a) cut-same ∙ ap (λ (x : List Store). put (pointer_word a 5) 0 ∷ x) attach-same

    rest-still : (e : ℕ) → Still (tree_at w) e t₂ rest
    rest-still e = rw rest-is at
        (still-append (tree_at w) e t₂ (cut_off t₂ a) (attach t₃ p a) (calm-still (tree_at w) p e t₂ _ (cut-calm w ns t₂ p a fine₂ e))
        (calm-still (tree_at w) p e t₃ _ (attach-calm w ns t₃ p a fine₃ e)))

    rest-quiet : (e : ℕ) → e ≢ l → Quiet (tree_at w) e t₂ rest
    rest-quiet e z = rw rest-is at (quiet-append (tree_at w) e t₂ (cut_off t₂ a) (attach t₃ p a)
        (calm-quiet (tree_at w) p e t₂ _ (cut-calm w ns t₂ p a fine₂ e) (λ q. z (omega (arith, parent₂))))
        (calm-quiet (tree_at w) p e t₃ _ (attach-calm w ns t₃ p a fine₃ e) (λ q. z (omega (arith, parent₃)))))

    link-at : (e : ℕ) → e ≢ l → QuietAt (tree_at w) e t₁ t₂
    link-at e z = seen-quiet w e t₁ t₂ (with_sibling v₁ a b) seen₂
        (link-same v₁ a b (take 5 (v.node a).shown) (middle t a) (drop 6 (v.node a).shown) p stays.fine.left parts parent
        e (λ q. z (q ∙ level₁)))
        (only-straight (with_sibling v₁ a b) p a linked.left.left.2 e (λ q. z (omega (arith, parent₁))))

    link-quiet : (e : ℕ) → e ≢ l → Quiet (tree_at w) e t₁ (put (suc (node_start a)) b ∷ [])
    link-quiet e z = each-part (QuietAt (tree_at w) e t₁) (put (suc (node_start a)) b ∷ []) t₁
        (record { same = same-refl e v₁; straight = none-straight v₁ stays.fine.left.left.2 e }, link-at e z)

    -- while a node on level l is split, each other level is quiet
    pub split-quiet : (e : ℕ) → e ≢ l → Quiet (tree_at w) e t (split_into w t l k b)
    unfolding split apply
    split-quiet e z = quiet-append (tree_at w) e t (put_all (node_start b) (split_words t a))
        (put (suc (node_start a)) b ∷ rest) (words-quiet e)
        (quiet-append (tree_at w) e t₁ (put (suc (node_start a)) b ∷ []) rest (link-quiet e z) (rest-quiet e z))

    -- while a node on level l is split, that level is quiet, one store turns it, and then it stays as it is
    pub split-turn : Turn (tree_at w) l t (split_into w t l k b)
    unfolding split
    split-turn = record {
      before = put_all (node_start b) (split_words t a);
      it = put (suc (node_start a)) b;
      after = rest;
      shape = refl;
      quiet = words-quiet l;
      crosses = seen-crosses l v₁ (tree_at w t₂) (with_sibling v₁ a b) seen₂
          (rw level₁ at (link-crosses v₁ a b (take 5 (v.node a).shown) (middle t a) (drop 6 (v.node a).shown) p
          stays.fine.left parts parent));
      still = rest-still l;
    }

    -- ---- what it leaves

    abbrev done : Words
    done = apply (split_into w t l k b) t

    abbrev u : View
    u = tree_at w done

    same-done : done ≡ apply (attach t₃ p a) t₃
    unfolding split apply
    same-done = apply-append (put_all (node_start b) (split_words t a)) _ t
        ∙ ap (λ (q : List Store). apply (shift_in_at t p (middle t a).key b) (apply q t₂)) (sym cut-same)
        ∙ ap (λ (q : List Store). apply q t₃) (sym attach-same)

    seen₃ : tree_at w t₃ ≡ with_shown (with_sibling v₁ a b) a (take 5 (v.node a).shown)
    seen₃ = cut-seen w ns t₂ p a fine₂ ∙ ap (with_shown (tree_at w t₂) a) kept-a
        ∙ ap (λ (x : View). with_shown x a (take 5 (v.node a).shown)) seen₂

    -- with these slots shown in p
    abbrev more : List Slot
    more = with_slot t₃ p (node_view t₃ (node_view t₃ a).sibling).fence (node_view t₃ a).sibling

    seen : u ≡ with_shown (with_shown (with_sibling v₁ a b) a (take 5 (v.node a).shown)) p more
    seen = ap (tree_at w) same-done ∙ attach-seen w ns t₃ p a fine₃ ∙ ap (λ (x : View). with_shown x p more) seen₃

    level-same : (n : ℕ) → (n ≡ b → ⊥) → (u.node n).level ≡ (v.node n).level
    level-same n z = ap (λ (x : View). (x.node n).level) seen ∙ level-eq (stays.node.else n z)

    fence-same : (n : ℕ) → (n ≡ b → ⊥) → (u.node n).fence ≡ (v.node n).fence
    fence-same n z = ap (λ (x : View). (x.node n).fence) seen ∙ fence-eq (stays.node.else n z)

    sibling-same : (n : ℕ) → (n ≡ a → ⊥) → (n ≡ b → ⊥) → (u.node n).sibling ≡ (v.node n).sibling
    sibling-same n y z = ap (λ (x : View). (x.node n).sibling) seen ∙ update-off (sibling_of v₁) a b n y ∙ sibling-eq (stays.node.else n z)

    reach : reached u ≡ splice a b (reached v)
    reach =
        ap (λ (x : Words). reached (tree_at w x)) same-done ∙ ap reached (attach-seen w ns t₃ p a fine₃)
        ∙ (attach-settles (tree_at w t₃) p a fine₃.left).reached
        ∙ ap reached (cut-seen w ns t₂ p a fine₂) ∙ (cut-keeps (tree_at w t₂) p a fine₂.left).reached ∙ ap reached seen₂ ∙ linked.reached
        ∙ ap (splice a b) stays.reached

    -- B is reached besides, and of the others the same ones
    pub split-others : (n : ℕ) → n ≢ b → elem n (reached (tree_at w (apply (split_into w t l k b) t))) ≡ elem n (reached (tree_at w t))
    split-others n z = ap (elem n) reach ∙ splice-elem a b n (reached v) z

    -- a split leaves the tree settled
    pub split-settled : Fine w ns (apply (split_into w t l k b) t) nothing
    split-settled = split-phase.settles

    orderly-u : Orderly u
    orderly-u = split-settled.left.orderly

    -- a split does not change the height
    pub split-height : height (tree_at w (apply (split_into w t l k b) t)) ≡ height (tree_at w t)
    split-height = ap height seen ∙ stays-height w ns t b s f _ t₁ stays

    -- a split makes one more node reached
    pub split-takes : length (reached (tree_at w (apply (split_into w t l k b) t))) ≡ suc (length (reached (tree_at w t)))
    split-takes = ap length reach ∙ length-splice a b (reached v) (once a (reached v) s.left.orderly.once stands-a.reached)

    -- on the other levels the same nodes stand for k
    others-stand : (d n : ℕ) → (n ≡ a → ⊥) → Stands v k d n → Stands u k d n
    others-stand d n z c =
        let y = free-other w ns t b s f n c.reached in
        stands-same v u k d n orderly-u (rw reach (mem-splice a b n (reached v) c.reached)) (level-same n y) (fence-same n y)
        (sibling-same n z y) (fence-same (v.node n).sibling (free-sibling w ns t b s f n c.reached)) c

    -- after a split on level l, a search for k stands on the same nodes of the other levels
    pub split-standing :
        (d : ℕ) → d ≤ height (tree_at w t) → d ≢ l → standing_at w (apply (split_into w t l k b) t) d k ≡ standing_at w t d k
    split-standing d g z =
        let c = standing-stands w ns t s k d g in
        standing-is w ns done split-settled k d (standing_at w t d k)
        (others-stand d (standing_at w t d k) (λ e. z (sym c.covers.at.level ∙ ap (level_of v) e ∙ stands-a.covers.at.level)) c)

    -- and below them show what they showed
    pub split-shown : (d : ℕ) → d < l → (node_view (apply (split_into w t l k b) t) (standing_at w t d k)).shown
        ≡ (node_view t (standing_at w t d k)).shown
    split-shown d g =
        let n = standing_at w t d k in
        let c = standing-stands w ns t s k d (omega (arith, h.high)) in
        let y : n ≡ a → ⊥ = λ e. omega (arith, c.covers.at.level, ap (level_of v) e, stands-a.covers.at.level) in
        let z : n ≡ p → ⊥ = λ e. omega (arith, c.covers.at.level, ap (level_of v) e, stands-p.covers.at.level) in
        ap (λ (x : View). (x.node n).shown) seen ∙ update-off _ p more n z ∙ update-off (shown_of v₁) a (take 5 (v.node a).shown) n y
        ∙ shown-eq (stays.node.else n (free-other w ns t b s f n c.reached))

    -- on level l it is A or B, and both have room
    shown-a : (u.node a).shown ≡ take 5 (v.node a).shown
    shown-a = ap (λ (x : View). (x.node a).shown) seen ∙ update-off _ p more a (λ e. other (sym e))
        ∙ update-at (shown_of v₁) a (take 5 (v.node a).shown)

    shown-b : (u.node b).shown ≡ upper_slots d mid high
    shown-b = ap (λ (x : View). (x.node b).shown) seen ∙ update-off _ p more b (λ e. not-p (sym e))
        ∙ update-off (shown_of v₁) a (take 5 (v.node a).shown) b (λ e. not-a (sym e)) ∙ shown-eq new

    fence-b : (u.node b).fence ≡ (middle t a).key
    fence-b = ap (λ (x : View). (x.node b).fence) seen ∙ fence-eq new

    a-stands : k < (middle t a).key → Stands u k l a
    unfolding below
    a-stands g =
        let e : (u.node a).sibling ≡ b = ap (λ (x : View). (x.node a).sibling) seen ∙ update-at (sibling_of v₁) a b in
        stands u k l a orderly-u (rw reach (mem-splice a b a (reached v) stands-a.reached)) (level-same a not-a ∙ stands-a.covers.at.level)
        (rw (fence-same a not-a) stands-a.covers.fence)
        (rw e (or-right (eqb b 0) _ (lt-ltb k (u.node b).fence (rw fence-b g))))

    b-stands : (middle t a).key ≤ k → Stands u k l b
    unfolding below
    b-stands g =
        let e : (u.node b).sibling ≡ (v.node a).sibling =
        ap (λ (x : View). (x.node b).sibling) seen ∙ update-off (sibling_of v₁) a b b (λ q. not-a (sym q)) ∙ sibling-eq new in
        let o = once a (reached v) s.left.orderly.once stands-a.reached in
        stands u k l b orderly-u (rw reach (splice-in a b (reached v) o))
        (ap (λ (x : View). (x.node b).level) seen ∙ level-eq new ∙ stands-a.covers.at.level) (rw fence-b g)
        (rw (e, fence-same (v.node a).sibling (free-sibling w ns t b s f a stands-a.reached)) stands-a.covers.inside)

    -- after a split the node that stands for k on that level shows at most 6 slots
    pub split-room : length (node_view (apply (split_into w t l k b) t) (standing_at w (apply (split_into w t l k b) t) l k)).shown ≤ 6
    split-room = go (ltb k (middle t a).key) refl
      where
        go : (c : Bool) → ltb k (middle t a).key ≡ c → length (u.node (standing_at w done l k)).shown ≤ 6
        go true c = rw (standing-is w ns done split-settled k l a (a-stands (ltb-true _ _ c)), shown-a, low-length) (omega arith)
        go false c = rw (standing-is w ns done split-settled k l b (b-stands (ltb-false _ _ c)), shown-b) few

    -- B is reached
    pub split-new : Memᴰ b (reached (tree_at w (apply (split_into w t l k b) t)))
    split-new = rw reach (splice-in a b (reached v) (once a (reached v) s.left.orderly.once stands-a.reached))

    -- A stands for k on level l if k is below B's fence, else B does
    pub split-half : standing_at w (apply (split_into w t l k b) t) l k
        ≡ cond (ltb k (middle t (standing_at w t l k)).key) (standing_at w t l k) b
    split-half = go (ltb k (middle t a).key) refl
      where
        go : (c : Bool) → ltb k (middle t a).key ≡ c → standing_at w done l k ≡ cond (ltb k (middle t a).key) a b
        go true c = rw c (standing-is w ns done split-settled k l a (a-stands (ltb-true _ _ c)))
        go false c = rw c (standing-is w ns done split-settled k l b (b-stands (ltb-false _ _ c)))
