-- A change of one node's slots: what each level keeps.
use Rattle.std.proofs.Common.{◌≡◌, ℕ, ◌<◌, List, refl}
use Rattle.model.specs.Table.{Words}
use Rattle.model.specs.Slots.{Slot, View, node_view}
use Rattle.model.specs.Search.{below}
use Rattle.model.specs.Reached.{first_child, fill_row, kept, children, reached_from, reached}
use Rattle.word_laws.proofs.ShiftViews.{Changed}
use Rattle.change_laws.proofs.Updates.{with_shown, with_hidden}
use Rattle.step_laws.proofs.Views.{changed-view, hidden-view}
use Rattle.step_laws.proofs.Rowwise.{Same, Straight, same-trans, same-views}
use Rattle.step_laws.proofs.LevelCourses.{QuietAt, Crosses}
use Rattle.step_laws.proofs.TreeAt.{tree_at}

module _ (v : View) (x h l : ℕ) where
  hidden-same : Same l v (with_hidden v x h)
  unfolding children kept fill_row below first_child reached_from
  hidden-same = same-views v (with_hidden v x h) refl (λ n m. (refl, refl, refl)) l

  hidden-straight : Straight l v → Straight l (with_hidden v x h)
  unfolding children kept fill_row below first_child reached_from
  hidden-straight s = s

-- of an equal view
same-is : (l : ℕ) (v w u : View) → w ≡ u → Same l v u → Same l v w
same-is l v w u e s = rw e s

straight-is : (l : ℕ) (w u : View) → w ≡ u → Straight l u → Straight l w
straight-is l w u e s = rw e s

pub seen-crosses : (l : ℕ) (v w u : View) → w ≡ u → Crosses l v u → Crosses l v w
seen-crosses l v w u e c = rw e c

pub shown-same : (v : View) (x : ℕ) (ss : List Slot) → reached (with_shown v x ss) ≡ reached v → (l : ℕ) → Same l v (with_shown v x ss)
shown-same v x ss e l = same-views v (with_shown v x ss) e (λ n m. (refl, refl, refl)) l

module _ (w : ℕ) where
  -- t' is seen as u
  pub seen-quiet : (l : ℕ) (t t' : Words) (u : View) → tree_at w t' ≡ u → Same l (tree_at w t) u → Straight l u → QuietAt (tree_at w) l t t'
  seen-quiet l t t' u e a b = record { same = same-is l (tree_at w t) (tree_at w t') u e a; straight = straight-is l (tree_at w t') u e b }

  module _ (low : w < 8) (t : Words) (x l : ℕ) where
    -- the same slots are shown
    pub hidden-still : (h : ℕ) (t' : Words) → Changed t x (node_view t x).shown h t' → Same l (tree_at w t) (tree_at w t')
    hidden-still h t' c =
        same-is l (tree_at w t) (tree_at w t') _ (hidden-view w low t x (node_view t x).shown h t' c refl) (hidden-same (tree_at w t) x h l)

    pub hidden-keeps : (h : ℕ) (t' : Words) → Changed t x (node_view t x).shown h t' → Straight l (tree_at w t) → Straight l (tree_at w t')
    hidden-keeps h t' c s =
        straight-is l (tree_at w t') _ (hidden-view w low t x (node_view t x).shown h t' c refl) (hidden-straight (tree_at w t) x h l s)

    pub hidden-quiet : Straight l (tree_at w t) → (h : ℕ) (t' : Words) → Changed t x (node_view t x).shown h t' → QuietAt (tree_at w) l t t'
    hidden-quiet s h t' c = record { same = hidden-still h t' c; straight = hidden-keeps h t' c s }

    -- other slots are shown, by which the same nodes are reached
    pub slots-still : (ss : List Slot) (h : ℕ) (t' : Words) → Changed t x ss h t' → reached (with_shown (tree_at w t) x ss)
        ≡ reached (tree_at w t) → Same l (tree_at w t) (tree_at w t')
    slots-still ss h t' c e =
        let u = with_shown (tree_at w t) x ss in
        same-is l (tree_at w t) (tree_at w t') (with_hidden u x h) (changed-view w low t x ss h t' c)
        (same-trans l (tree_at w t) u (with_hidden u x h) (shown-same (tree_at w t) x ss e l) (hidden-same u x h l))

    pub slots-quiet : (ss : List Slot) (h : ℕ) (t' : Words) → Changed t x ss h t' → reached (with_shown (tree_at w t) x ss)
        ≡ reached (tree_at w t) → Straight l (with_shown (tree_at w t) x ss) → QuietAt (tree_at w) l t t'
    slots-quiet ss h t' c e s =
        let u = with_shown (tree_at w t) x ss in
        record {
          same = slots-still ss h t' c e;
          straight = straight-is l (tree_at w t') (with_hidden u x h) (changed-view w low t x ss h t' c) (hidden-straight u x h l s);
        }
