-- What two views have in common on one level: its nodes, their fences and siblings; and which node a search comes to there.
use Rattle.std.proofs.Common.{◌≡◌, ℕ, suc, ◌≤◌, Bool, true, false, ◌||◌, eqb, ltb, ◌≢◌, sym, refl, ap, ◌∙◌, arith}
use mathlib.Core.List.{Memᴰ}
use borrow.Author.Tests.{eqb-false}
use Rattle.model.specs.Table.{in_range}
use Rattle.model.specs.Slots.{View, height}
use Rattle.model.specs.Search.{below, within, moved, down}
use Rattle.model.specs.Reached.{named, next_child, children, reached}
use Rattle.view_laws.proofs.NodeViews.{level_of}
use Rattle.list_laws.proofs.Members.{each-mem}
use Rattle.tree_laws.proofs.Rows.{Good, sib-facts, children-inner, fill-mem}
use Rattle.tree_laws.proofs.Levels.{Orderly, reached-row, row_at, level-at, Bounded, reached-bounds}
use Rattle.tree_laws.proofs.Parents.{sibling-reached, child-reached}
use Rattle.tree_laws.proofs.Leftovers.{NoneMissing, MissingOnly}
use Rattle.tree_laws.proofs.Cover.{cover, down-named, stays}
use Rattle.tree_laws.proofs.SearchLaw.{Stands, Step, cover-only, path-at, path-stands, path-step}
use Rattle.step_laws.proofs.Standing.{stands}

-- n is one of the nodes of level l
abbrev pub OnRow : View → ℕ → ℕ → Type 0
OnRow v l n = Memᴰ n (reached v) × ((v.node n).level ≡ l)

-- level l has the same nodes in v and in w, with the same fences and siblings
pub record Same (l : ℕ) (v w : View) : Type 0 where
  pub there : (n : ℕ) → OnRow v l n → OnRow w l n
  pub back : (n : ℕ) → OnRow w l n → OnRow v l n
  pub fence : (n : ℕ) → OnRow v l n → (w.node n).fence ≡ (v.node n).fence
  pub sibling : (n : ℕ) → OnRow v l n → (w.node n).sibling ≡ (v.node n).sibling

-- each node that level l has in v is still on it in w, with its fence
pub record Lasts (l : ℕ) (v w : View) : Type 0 where
  pub level : (n : ℕ) → OnRow v l n → (w.node n).level ≡ l
  pub fence : (n : ℕ) → OnRow v l n → (w.node n).fence ≡ (v.node n).fence

-- no node of level l lacks its slot
abbrev pub Straight : ℕ → View → Type 0
Straight l v = (m : ℕ) → OnRow v (suc l) m → children v m ≡ named v m

-- coming to n on level l, a search for k finds its node by one move at most
pub record Comes (v : View) (k l n : ℕ) : Type 0 where
  pub row : OnRow v l n
  pub stands : Stands v k l (moved v n k)

-- ---- Same is an equivalence

-- a level is the same in a view as in itself
pub same-refl : (l : ℕ) (v : View) → Same l v v
same-refl l v = record { there = λ n r. r; back = λ n r. r; fence = λ n r. refl; sibling = λ n r. refl }

-- if a level is the same in v and w, it is in w and v
pub same-sym : (l : ℕ) (v w : View) → Same l v w → Same l w v
same-sym l v w s = record
    { there = s.back; back = s.there; fence = λ n r. sym (s.fence n (s.back n r)); sibling = λ n r. sym (s.sibling n (s.back n r)) }

-- if a level is the same in u and v, and in v and w, it is in u and w
pub same-trans : (l : ℕ) (u v w : View) → Same l u v → Same l v w → Same l u w
same-trans l u v w a b = record {
  there = λ n r. b.there n (a.there n r);
  back = λ n r. a.back n (b.back n r);
  fence = λ n r. b.fence n (a.there n r) ∙ a.fence n r;
  sibling = λ n r. b.sibling n (a.there n r) ∙ a.sibling n r;
}

-- a level that is the same keeps its nodes and their fences
pub same-lasts : (l : ℕ) (v w : View) → Same l v w → Lasts l v w
same-lasts l v w s = record { level = λ n r. (s.there n r).1; fence = s.fence }

-- ---- one view

module _ (v : View) (o : Orderly v) where
  -- a node's sibling, if it has one, is on its level
  pub sibling-row : (l n : ℕ) → OnRow v l n → (v.node n).sibling ≢ 0 → OnRow v l (v.node n).sibling
  sibling-row l n r z = (sibling-reached v n o r.0 z, (sib-facts v n (each-mem (Good v) o.good r.0) z).level ∙ r.1)

  -- a node of a level has a number from 1 to N
  pub row-range : (l n : ℕ) → OnRow v l n → in_range v.nodes n ≡ true
  row-range l n r = (each-mem (Bounded v (height v)) (reached-bounds v o) r.0).0

  -- only one node of a level stands for k
  pub stands-at : (k d n : ℕ) → Stands v k d n → (d ≤ height v) × (cover v k (row_at v d) ≡ n)
  stands-at k d n c =
      let l = c.covers.at.level in
      let r = reached-row v n o c.reached in
      let h : d ≤ height v = omega (arith, l, r.level) in
      (h, cover-only v k d n (row_at v d) (level-at v d o h).row (rw l at r.row) c.covers.fence c.covers.inside)

  -- a search that stands on node n of level l finds its node if it comes to n
  pub stands-comes : (k l n : ℕ) → Stands v k l n → Comes v k l n
  stands-comes k l n c = record { row = (c.reached, c.covers.at.level); stands = rw (stays v k n c.covers.inside) c }

  -- the way down from the node that stands for k
  pub way-down : (k l m : ℕ) → Stands v k (suc l) m → Comes v k l (down v m k) × (Straight l v → Stands v k l (down v m k))
  way-down k l m c =
      let h = stands-at k (suc l) m c in
      let e = path-at v k (suc l) o h.0 ∙ h.1 in
      let s = path-step v k l o h.0 in
      let b = path-stands v k l o (omega (arith, h.0)) in
      go _ _ e b s
    where
      go : (p q : ℕ) → p ≡ m → Stands v k l q → Step v k l p q → Comes v k l (down v m k) × (Straight l v → Stands v k l (down v m k))
      go p q e b s =
          let x = rw e at s in
          let t : Memᴰ (down v m k) (children v m) =
          rw (children-inner v l m c.covers.at.level) (fill-mem v (next_child v m) (down-named v k m c.covers.inside)) in (
            record { row = (child-reached v m (down v m k) o c.reached t, x.at.level); stands = rw x.moves b },
            λ f. rw (x.straight (f m (c.reached, c.covers.at.level))) b,
          )

-- ---- two views

module _ (v w : View) (ov : Orderly v) (ow : Orderly w) (l : ℕ) where
  below-same : (s k : ℕ) → (s ≢ 0 → (w.node s).fence ≡ (v.node s).fence) → below w s k ≡ below v s k
  unfolding below
  below-same s k f = go (eqb s 0) refl
    where
      go : (b : Bool) → eqb s 0 ≡ b → below w s k ≡ below v s k
      go true e = rw (e, below)
      go false e = ap (λ (x : ℕ). eqb s 0 || ltb k x) (f (eqb-false s 0 e))

  module _ (s : Same l v w) where
    within-same : (n k : ℕ) → OnRow v l n → within w n k ≡ within v n k
    within-same n k r = ap (λ (x : ℕ). below w x k) (s.sibling n r)
        ∙ below-same (v.node n).sibling k (λ z. s.fence (v.node n).sibling (sibling-row v ov l n r z))

    -- a search stands on the same nodes of a level that is the same in both views
    pub same-stands : (k n : ℕ) → Stands v k l n → Stands w k l n
    same-stands k n c =
        let r : OnRow v l n = (c.reached, c.covers.at.level) in
        let q = s.there n r in
        stands w k l n ow q.0 q.1 (rw (s.fence n r) c.covers.fence) (within-same n k r ∙ c.covers.inside)

    moved-same : (n k : ℕ) → OnRow v l n → moved w n k ≡ moved v n k
    unfolding moved
    moved-same n k r = go (within v n k) refl
      where
        go : (b : Bool) → within v n k ≡ b → moved w n k ≡ moved v n k
        go true e = rw (within-same n k r, e, moved)
        go false e = rw (within-same n k r, e, moved) (s.sibling n r)

    -- a search can come to the same nodes of a level that is the same in both views
    pub same-comes : (k n : ℕ) → Comes v k l n → Comes w k l n
    same-comes k n c = record { row = s.there n c.row; stands = rw (moved-same n k c.row) (same-stands k (moved v n k) c.stands) }

-- ---- from what is known of whole views

-- the same nodes are reached, with the same levels, fences and siblings
pub same-views : (v w : View) → reached w ≡ reached v
    → ((n : ℕ) → Memᴰ n (reached v) → ((w.node n).level ≡ (v.node n).level) × ((w.node n).fence ≡ (v.node n).fence)
    × ((w.node n).sibling ≡ (v.node n).sibling)) → (l : ℕ) → Same l v w
same-views v w e f l = record {
  there = λ n r. (rw e r.0, (f n r.0).0 ∙ r.1);
  back = λ n r. let m = rw e at r.0 in (m, sym (f n m).0 ∙ r.1);
  fence = λ n r. (f n r.0).1;
  sibling = λ n r. (f n r.0).2;
}

-- no slot is missing, or only in p
pub none-straight : (v : View) → NoneMissing v → (l : ℕ) → Straight l v
none-straight v h l m r = each-mem (λ (n : ℕ). (v.node n).level ≢ 0 → children v n ≡ named v n) h r.0 (λ z. omega (arith, r.1))

pub only-straight : (v : View) (p a : ℕ) → MissingOnly v p a → (l : ℕ) → (v.node p).level ≢ suc l → Straight l v
only-straight v p a h l z m r =
    each-mem (λ (n : ℕ). n ≢ p → (v.node n).level ≢ 0 → children v n ≡ named v n) h.others r.0 (λ e. z (ap (level_of v) (sym e) ∙ r.1))
    (λ y. omega (arith, r.1))
