-- A new root: every store leaves a settled table with the same map, and the search path grows by the new root.
use Rattle.std.proofs.Common.{◌≡◌, ℕ, suc, ◌<◌, ◌≤◌, ◌≢◌, ◌⊎◌, List, [], ◌∷◌, length, set, sym, refl, ap, ◌∙◌, arith, ne_eqb}
use mathlib.Core.List.{Memᴰ}
use Rattle.model.specs.Table.{Words, node_start}
use Rattle.model.specs.Slots.{NodeView, View, node_view, height}
use Rattle.model.specs.Search.{below}
use Rattle.model.specs.Reached.{reached, mapping}
use Rattle.model.specs.SoundTest.{elem, nothing}
use Rattle.model.specs.Orders.{put, apply, orders_after, orders}
use Rattle.model.specs.Writes.{put_all, node_words, new_root_at}
use Rattle.view_laws.proofs.NodeViews.{shown_of, new_node, sibling-eq, level-eq, fence-eq, shown-eq}
use Rattle.word_laws.proofs.Frames.{same-nodes}
use Rattle.word_laws.proofs.HeadStores.{root-view, root-head}
use Rattle.word_laws.proofs.NewNodes.{length-node-words}
use Rattle.tree_laws.proofs.SearchLaw.{Stands}
use Rattle.cut_laws.proofs.Applying.{apply-append}
use Rattle.change_laws.proofs.Updates.{with_root}
use Rattle.change_laws.proofs.NewRoot.{AboveRoot, Rooted, new-root}
use Rattle.step_laws.proofs.Phase.{Phase}
use Rattle.step_laws.proofs.Stages.{SettledWith, stage-phase, phase-until}
use Rattle.step_laws.proofs.Fresh.{Free, free-other}
use Rattle.step_laws.proofs.WholeNode.{Stays, whole-stage, whole-stays}
use Rattle.step_laws.proofs.Rowwise.{same-refl, none-straight}
use Rattle.step_laws.proofs.LevelCourses.{Crosses, QuietAt, Quiet, each-part, quiet-append}
use Rattle.step_laws.proofs.SlotCourses.{seen-quiet, seen-crosses}
use Rattle.step_laws.proofs.LinkCourses.{whole-quiet, root-same, root-crosses}
use Rattle.step_laws.proofs.Standing.{standing-stands, standing-is, stands, stands-same, stays-height, stays-stands}
use Rattle.step_laws.proofs.TreeAt.{tree_at, Fine, map_at, standing_at, root_at, same-word, avoids-is}

module _ (w : ℕ) (ns : List ℕ) where
  -- into a free node r
  module _ (t : Words) (s : Fine w ns t nothing) (low : height (tree_at w t) < 15) (which : (w ≡ 1) ⊎ (w ≡ 3)) (r : ℕ)
      (f : Free w ns t r) where
    abbrev v : View
    v = tree_at w t

    -- ---- the new root's words

    abbrev ws : Words
    ws = node_words (root_at w t) 0 (suc (height v)) 0 []

    abbrev t₁ : Words
    t₁ = apply (put_all (node_start r) ws) t

    abbrev v₁ : View
    v₁ = tree_at w t₁

    abbrev top : NodeView
    top = new_node (root_at w t) 0 (suc (height v)) 0 []

    stays : Stays w ns t r top t₁
    stays = whole-stays w ns t r (root_at w t) 0 (suc (height v)) 0 [] s f tt (omega arith)

    new : node_view t₁ r ≡ top
    new = stays.node.here

    same-height : height v₁ ≡ height v
    same-height = stays-height w ns t r s f top t₁ stays

    above : AboveRoot v₁ r
    above = record {
      range = rw (same-nodes stays.header) f.range;
      fresh = rw stays.reached f.unreached;
      low = omega (arith, same-height);
      node = new ∙ sym (λ i. new_node (same-word w s.low stays.header i) 0 (suc (same-height i)) 0 []);
    }

    rooted : Rooted v₁ (with_root v₁ r) r
    rooted = new-root v₁ r stays.fine.left above

    -- ---- the tree's header word

    abbrev t₂ : Words
    t₂ = set t₁ w r

    seen : tree_at w t₂ ≡ with_root v₁ r
    seen = root-view w t₁ r s.low which stays.fine.header

    settles : SettledWith w ns (map_at w t) t₂
    settles =
        let f : Fine w ns t₂ nothing = record {
          low = s.low;
          header = root-head w t₁ r s.low which stays.fine.header;
          left = rw seen rooted.left;
          room = refl;
          apart = avoids-is ns (tree_at w t₂) (with_root v₁ r) seen (rw rooted.reached (f.off, stays.fine.apart));
        } in
        (f, ap mapping seen ∙ rooted.mapping ∙ stays.mapping)

    link-phase : Phase w ns 2 t₁ (put w r ∷ []) (map_at w t)
    link-phase = phase-until w ns 2 t₁ (put w r ∷ []) (unfold orders orders_after in omega arith)
        (omega (arith, stays.fine.header.size.long, s.low), tt) (map_at w t)
        (((nothing, stays.fine), refl), settles)

    -- New root: every first part of its stores leaves a sound table with the same map.
    pub root-phase : Phase w ns 38 t (new_root_at w t r) (map_at w t)
    root-phase = stage-phase w ns 36 2 t (put_all (node_start r) ws) (put w r ∷ []) (map_at w t)
        (whole-stage w ns t r (root_at w t) 0 (suc (height v)) 0 [] s f) link-phase

    -- ---- every level is quiet but the new one, which has no node before

    words-quiet : (l : ℕ) → Quiet (tree_at w) l t (put_all (node_start r) ws)
    words-quiet = whole-quiet w ns t r s f ws (length-node-words (root_at w t) 0 (suc (height v)) 0 [])

    link-quiet : (l : ℕ) → l ≢ suc (height v) → Quiet (tree_at w) l t₁ (put w r ∷ [])
    link-quiet l z = each-part (QuietAt (tree_at w) l t₁) (put w r ∷ []) t₁ (
      record { same = same-refl l v₁; straight = none-straight v₁ stays.fine.left.left.2 l },
      seen-quiet w l t₁ t₂ (with_root v₁ r) seen (root-same v₁ r rooted.reached l (λ e. z (e ∙ level-eq new)))
          (none-straight (with_root v₁ r) rooted.left.left.2 l),
    )

    -- while a new root is made, each level is quiet but its own
    pub root-quiet : (l : ℕ) → l ≢ suc (height (tree_at w t)) → Quiet (tree_at w) l t (new_root_at w t r)
    root-quiet l z = quiet-append (tree_at w) l t (put_all (node_start r) ws) (put w r ∷ []) (words-quiet l) (link-quiet l z)

    -- ---- what it leaves

    reach : reached (tree_at w t₂) ≡ r ∷ reached v
    reach = ap reached seen ∙ rooted.reached ∙ ap (λ (l : List ℕ). r ∷ l) stays.reached

    up : height (tree_at w t₂) ≡ suc (height v)
    up = ap height seen ∙ level-eq new

    old-stands : (k d n : ℕ) → Stands v k d n → Stands (tree_at w t₂) k d n
    old-stands k d n c =
        let e = stays-stands w ns t r s f top t₁ stays k d n c in
        rw seen (stands-same v₁ (with_root v₁ r) k d n rooted.left.orderly (rw rooted.reached (Memᴰ.tail e.reached)) refl refl refl refl e)

    top-stands : (k : ℕ) → Stands (tree_at w t₂) k (suc (height v)) r
    unfolding below
    top-stands k = rw seen
        (stands (with_root v₁ r) k (suc (height v)) r rooted.left.orderly (rw rooted.reached (Memᴰ.head refl)) (level-eq new)
        (rw (fence-eq new) (omega arith)) (rw (sibling-eq new)))

    after : apply (new_root_at w t r) t ≡ t₂
    unfolding apply
    after = apply-append (put_all (node_start r) ws) (put w r ∷ []) t

    -- the header's store turns the new level
    pub root-turns : Crosses (suc (height (tree_at w t)))
        (tree_at w (apply (put_all (node_start r) (node_words (root_at w t) 0 (suc (height (tree_at w t))) 0 [])) t))
        (tree_at w (apply (new_root_at w t r) t))
    root-turns = rw after
        (seen-crosses (suc (height v)) v₁ (tree_at w t₂) (with_root v₁ r) seen
        (root-crosses v₁ r rooted.reached stays.fine.left.orderly (suc (height v)) (omega (arith, same-height))))

    -- a new root makes the tree one level higher
    pub root-height : height (tree_at w (apply (new_root_at w t r) t)) ≡ suc (height (tree_at w t))
    root-height = rw after up

    -- a new root makes one more node reached
    pub root-takes : length (reached (tree_at w (apply (new_root_at w t r) t))) ≡ suc (length (reached (tree_at w t)))
    root-takes = rw after (ap length reach)

    -- it is reached besides, and of the others the same ones
    pub root-others : (n : ℕ) → n ≢ r → elem n (reached (tree_at w (apply (new_root_at w t r) t))) ≡ elem n (reached (tree_at w t))
    unfolding elem
    root-others n z = rw after (ap (elem n) reach ∙ rw (ne_eqb n r z))

    -- the path to k has the nodes that it had, and above them the new root, which shows nothing
    pub root-standing : (k d : ℕ) → d ≤ height (tree_at w t) → standing_at w (apply (new_root_at w t r) t) d k ≡ standing_at w t d k
    root-standing k d h =
        rw after (standing-is w ns t₂ settles.0 k d (standing_at w t d k)
        (old-stands k d (standing_at w t d k) (standing-stands w ns t s k d h)))

    -- a new root does not change what the other nodes show
    pub root-shown : (n : ℕ) → Memᴰ n (reached (tree_at w t)) → (node_view (apply (new_root_at w t r) t) n).shown ≡ (node_view t n).shown
    root-shown n m = rw after (ap (λ (x : View). (x.node n).shown) seen ∙ shown-eq (stays.node.else n (free-other w ns t r s f n m)))

    -- after a new root r, a search stands on r on the top level
    pub root-top : (k : ℕ) → standing_at w (apply (new_root_at w t r) t) (suc (height (tree_at w t))) k ≡ r
    root-top k = rw after (standing-is w ns t₂ settles.0 k (suc (height v)) r (top-stands k))

    -- a new root shows no slots
    pub root-shows : (k : ℕ)
        → ((tree_at w (apply (new_root_at w t r) t)).node
        (standing_at w (apply (new_root_at w t r) t) (suc (height (tree_at w t))) k)).shown ≡ []
    root-shows k = ap (shown_of (tree_at w (apply (new_root_at w t r) t))) (root-top k)
        ∙ rw after (ap (λ (x : View). (x.node r).shown) seen ∙ shown-eq new)
