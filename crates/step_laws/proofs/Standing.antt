-- The nodes that a search stands on in a settled table, level by level; and in another table that has them with the same range of keys.
use Rattle.std.proofs.Common.{◌≡◌, ℕ, suc, ◌<◌, ◌≤◌, true, ◌||◌, eqb, ltb, List, refl, ap, ◌∙◌, arith}
use mathlib.Core.List.{Memᴰ}
use Rattle.model.specs.Table.{Words}
use Rattle.model.specs.Slots.{NodeView, View, node_view, height}
use Rattle.model.specs.Search.{below, within}
use Rattle.model.specs.Reached.{reached}
use Rattle.model.specs.Writes.{standing_in}
use Rattle.view_laws.proofs.NodeViews.{level_of, fence-eq, level-eq, sibling-eq}
use Rattle.list_laws.proofs.Members.{each-mem}
use Rattle.tree_laws.proofs.Rows.{Good}
use Rattle.tree_laws.proofs.Levels.{Orderly, level-at, row_at, reached-row, Bounded, reached-bounds}
use Rattle.tree_laws.proofs.SearchLaw.{Stands, cover-only, path-stands}
use Rattle.tree_laws.proofs.PlaceOf.{standing-at}
use Rattle.change_laws.proofs.Parents.{Parent, reached-children, path-parent}
use Rattle.step_laws.proofs.Fresh.{Free, free-other, free-sibling}
use Rattle.step_laws.proofs.WholeNode.{Stays}
use Rattle.model.specs.SoundTest.{nothing}
use Rattle.step_laws.proofs.TreeAt.{tree_at, Fine, standing_at, root_at, same-word}

-- ---- of another view

-- a reached node of level d whose range has k
pub stands : (v : View) (k d n : ℕ) → Orderly v → Memᴰ n (reached v) → (v.node n).level ≡ d → (v.node n).fence ≤ k
    → within v n k ≡ true → Stands v k d n
stands v k d n o m l f w = record {
  reached = m;
  covers = record {
    good = each-mem (Good v) o.good m;
    at = record { range = (each-mem (Bounded v (height v)) (reached-bounds v o) m).0; level = l };
    inside = w;
    fence = f;
  };
}

-- the view w reads the same of n and of its sibling's fence
pub stands-same : (v w : View) (k d n : ℕ) → Orderly w → Memᴰ n (reached w) → (w.node n).level ≡ (v.node n).level
    → (w.node n).fence ≡ (v.node n).fence → (w.node n).sibling ≡ (v.node n).sibling → (w.node (v.node n).sibling).fence
    ≡ (v.node (v.node n).sibling).fence
    → Stands v k d n → Stands w k d n
unfolding below
stands-same v w k d n o m l f b g c = stands w k d n o m (l ∙ c.covers.at.level) (rw f c.covers.fence)
    (ap (λ (x : ℕ). eqb x 0 || ltb k (w.node x).fence) b ∙ ap (λ (x : ℕ). eqb (v.node n).sibling 0 || ltb k x) g ∙ c.covers.inside)

module _ (w : ℕ) (ns : List ℕ) where
  -- ---- of one table

  module _ (t : Words) (s : Fine w ns t nothing) where
    o : Orderly (tree_at w t)
    o = s.left.orderly

    pub root-reached : Memᴰ (root_at w t) (reached (tree_at w t))
    root-reached = rw (reached-children (tree_at w t) o) (Memᴰ.head refl)

    module _ (k : ℕ) where
      -- in a settled tree the node that the search for k stands on, on level d, covers k there
      pub standing-stands : (d : ℕ) → d ≤ height (tree_at w t) → Stands (tree_at w t) k d (standing_at w t d k)
      unfolding standing_in
      standing-stands d h = path-stands (tree_at w t) k d o h

      pub standing-parent : (d : ℕ) → d < height (tree_at w t) → Parent (tree_at w t) (standing_at w t d k) (standing_at w t (suc d) k)
      unfolding standing_in
      standing-parent d h = path-parent (tree_at w t) k d o h

      -- only one node of a level stands for k
      pub standing-is : (d n : ℕ) → Stands (tree_at w t) k d n → standing_at w t d k ≡ n
      standing-is d n c =
          let v = tree_at w t in
          let l = c.covers.at.level in
          let r = reached-row v n o c.reached in
          let h : d ≤ height v = omega (arith, l, r.level) in
          standing-at v d k o h ∙ cover-only v k d n (row_at v d) (level-at v d o h).row (rw l at r.row) c.covers.fence c.covers.inside

  -- what a free node holds does not matter
  module _ (t : Words) (b : ℕ) (s : Fine w ns t nothing) (f : Free w ns t b) (x : NodeView) (t' : Words) (u : Stays w ns t b x t') where
    pub stays-height : height (tree_at w t') ≡ height (tree_at w t)
    stays-height = ap (level_of (tree_at w t')) (same-word w s.low u.header)
        ∙ level-eq (u.node.else (root_at w t) (free-other w ns t b s f (root_at w t) (root-reached t s)))

    pub stays-stands : (k d n : ℕ) → Stands (tree_at w t) k d n → Stands (tree_at w t') k d n
    stays-stands k d n c =
        let m = c.reached in
        let z = free-other w ns t b s f n m in
        let o = u.node.else n z in
        stands-same (tree_at w t) (tree_at w t') k d n u.fine.left.orderly (rw u.reached m) (level-eq o) (fence-eq o) (sibling-eq o)
        (fence-eq (u.node.else (node_view t n).sibling (free-sibling w ns t b s f n m))) c
