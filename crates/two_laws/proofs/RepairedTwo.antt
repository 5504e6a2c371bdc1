-- The table as repair would leave it, read off the table itself, for each collection, wherever the leftover is.
use Rattle.std.proofs.Common.{◌≡◌, ℕ, ◌+◌, ◌<◌, true, ◌≢◌, ◌⊎◌, List, length, ap, ◌∙◌, inl, inr, arith}
use mathlib.Core.List.{Memᴰ}
use mathlib.Core.Option.{some}
use Rattle.model.specs.Table.{Words, at}
use Rattle.model.specs.Slots.{node_view, height}
use Rattle.model.specs.Search.{path}
use Rattle.model.specs.Reached.{kept, reached}
use Rattle.model.specs.SoundTest.{nothing, Leftover, leftover, sound}
use Rattle.model.specs.Orders.{Store, apply}
use Rattle.model.specs.Writes.{repair_of, repaired, repair_stores}
use Rattle.view_laws.proofs.NodeViews.{bare}
use Rattle.list_laws.proofs.Tools.{Each, same-or-not}
use Rattle.list_laws.proofs.Members.{each-mem, mem-each, mem-flat}
use Rattle.change_laws.proofs.Parts.{HasLeft, has-left-iff, Keeps}
use Rattle.step_laws.proofs.SamePaths.{height-same, path-same}
use Rattle.step_laws.proofs.Repair.{repair-of}
use Rattle.step_laws.proofs.RepairedView.{lacking_in, RepairedView, repaired-view}
use Rattle.two_laws.proofs.Frame.{Away, away-shown}
use Rattle.step_laws.proofs.TreeAt.{tree_at, Fine, repaired_at}
use Rattle.two_laws.proofs.TwoLaw.{taken, Tree, Low, tree-fine, stays, head-same}
use Rattle.two_laws.proofs.Arrange.{Arr, arr-low, SoundAs, sound-tree}
use Rattle.two_laws.proofs.CallsTwo.{Is, arr-other, repair-list}
use Rattle.two_laws.proofs.RepairTwo.{repair-away}

-- the tree of header word x in the table t', against t
pub record Later (x : ℕ) (t t' : Words) : Type 0 where
  pub count : (n : ℕ) → Memᴰ n (reached (tree_at x t)) → length (node_view t' n).shown
      ≡ length (kept (tree_at x t) n) + lacking_in (leftover (tree_at x t)) n
  pub height : height (tree_at x t') ≡ height (tree_at x t)
  pub reached : reached (tree_at x t') ≡ reached (tree_at x t)
  pub path : (k : ℕ) → path (tree_at x t') k ≡ path (tree_at x t) k

module _ (w : ℕ) (ws : List ℕ) (t : Words) (y : Leftover) (low : Low w ws) (f : Tree w ws t y) where
  abbrev ns : List ℕ
  ns = taken ws t

  abbrev ss : List Store
  ss = repair_of t (some y)

  abbrev t' : Words
  t' = apply (repair_of t (some y)) t

  fine : Fine w ns t y
  fine = tree-fine w ws t low y f

  away : Each (Away (taken ws t)) ss
  away = repair-away w ws t y low f

  done : repaired_at w t ≡ t'
  unfolding repaired_at
  done = ap (λ (q : List Store). apply q t) (repair-of w ns t y fine)

  r : RepairedView w t
  r = repaired-view w ns t (y, fine)

  -- the tree with the leftover
  pub own-later : Later w t (apply (repair_of t (some y)) t)
  own-later = record {
    height = rw done at r.height;
    reached = rw done at r.same.reached;
    path = rw done at r.path;
    count = rw done at r.count;
  }

  -- another tree
  module _ (x : ℕ) (i : Memᴰ x ws) where
    k : Keeps (tree_at x t) (tree_at x t') nothing
    k = each-mem (λ (x : ℕ). Keeps (tree_at x t) (tree_at x t') nothing) (stays w ws t y low f ss away) i

    l : HasLeft (tree_at x t) nothing
    l = each-mem (λ (x : ℕ). HasLeft (tree_at x t) nothing) f.others i

    root-same : at t' x ≡ at t x
    root-same = head-same w ws t y low f ss away x (each-mem (λ (x : ℕ). x < 8) low.1 i)

    -- all but slots is as before
    bares : (n : ℕ) → bare (node_view t' n) ≡ bare (node_view t n)
    bares = rw done at r.same.bare

    pub other-later : Later x t (apply (repair_of t (some y)) t)
    other-later = record {
      height = height-same (tree_at x t) (tree_at x t') l.orderly k.left.orderly root-same bares k.reached;
      reached = k.reached;
      path = path-same (tree_at x t) (tree_at x t') l.orderly k.left.orderly root-same bares k.reached;
      count = λ n h.
          let q : kept (tree_at x t) n ≡ (node_view t n).shown =
          each-mem (λ (n : ℕ). kept (tree_at x t) n ≡ (node_view t n).shown) l.left.1 h in
          let e : leftover (tree_at x t) ≡ some nothing = ((has-left-iff (tree_at x t) nothing).1 l).1 in
          let z : length (node_view t n).shown ≡ length (node_view t n).shown + 0 = omega arith in
          ap length (away-shown (taken ws t) ss t n ((mem-flat (λ (x : ℕ). reached (tree_at x t)) n ws).1 (x, i, h)) away) ∙ z ∙ rw (e, q);
    }

-- For every collection of a sound table: the same nodes and paths after repair, and how many slots each node then shows.
pub repaired-later : (t : Words) (x : ℕ) → sound t ≡ true → Is x t → Later x t (repaired t)
unfolding repaired
repaired-later t x s i = go (sound-tree t s)
  where
    go : (u : SoundAs t) → Later x t (apply (repair_stores t) t)
    go u =
        let w = u.word in
        let low = arr-low w u.others t u.arranged in
        let e : repair_stores t ≡ repair_of t (some u.leftover) = repair-list w u.others t u.leftover u.arranged u.tree in
        rw e (by-word w u.others u.leftover low u.arranged u.tree (same-or-not x w))
      where
        by-word : (w : ℕ) (ws : List ℕ) (y : Leftover) → Low w ws → Arr w ws t → Tree w ws t y → (x ≡ w) ⊎ (x ≢ w)
            → Later x t (apply (repair_of t (some y)) t)
        by-word w ws y low a f (inl e) = rw e (own-later w ws t y low f)
        by-word w ws y low a f (inr z) =
            other-later w ws t y low f x (arr-other w ws t x (λ (x : ℕ). Memᴰ x ws) a i z (mem-each (λ (x : ℕ). Memᴰ x ws) ws (λ x m. m)))
