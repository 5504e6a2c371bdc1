-- The levels of each tree over the stores of a write: those of the others are quiet.
use Rattle.std.proofs.Common.{ℕ, ◌<◌, ◌≤◌, List, [], ◌∷◌, ◌++◌, length, take, refl, inl, arith}
use mathlib.Core.List.{Memᴰ}
use Rattle.model.specs.Table.{Words, at, node_start}
use Rattle.model.specs.Slots.{View, view_from}
use Rattle.model.specs.Reached.{reached}
use Rattle.model.specs.SoundTest.{Leftover, nothing}
use Rattle.model.specs.Orders.{Store, apply}
use Rattle.list_laws.proofs.Tools.{Each, Each-map}
use Rattle.list_laws.proofs.Members.{each-take, each-both, each-mem, mem-each}
use Rattle.list_laws.proofs.Distinct.{UpTo, pigeonhole}
use Rattle.tree_laws.proofs.Rows.{At, Row, range-iff}
use Rattle.tree_laws.proofs.Levels.{ascending, row-distinct}
use Rattle.word_laws.proofs.Outside.{outside-start, outside-store}
use Rattle.word_laws.proofs.Stores.{do_store}
use Rattle.word_laws.proofs.Frames.{same-nodes, else-header, view-else}
use Rattle.change_laws.proofs.Parts.{HasLeft}
use Rattle.step_laws.proofs.Rowwise.{Same, Straight, same-refl, same-trans, none-straight}
use Rattle.step_laws.proofs.LevelCourses.{Quiet, Way, quiet-nil, quiet-append}
use Rattle.step_laws.proofs.LinkCourses.{unreached-quiet}
use Rattle.two_laws.proofs.Frame.{Away, away-keeps}
use Rattle.step_laws.proofs.TreeAt.{tree_at}
use Rattle.two_laws.proofs.TwoLaw.{taken, Tree, Low, head-same, away-one}

-- a row has at most N nodes
pub row-few : (v : View) (d : ℕ) (ns : List ℕ) → Row v d ns → length ns ≤ v.nodes
row-few v d ns r = pigeonhole v.nodes ns (row-distinct v ns (ascending v d ns r))
    (Each-map (At v d) (UpTo v.nodes) ns (λ n a. (range-iff v.nodes n).0 a.range) r.at)

-- ---- a tree that the stores do not go to

store-quiet : (l : ℕ) (t : Words) (q : ℕ) (s : Store) → HasLeft (view_from t q) nothing → Away (reached (view_from t q)) s
    → Same l (view_from t q) (view_from (do_store s t) q) × Straight l (view_from (do_store s t) q)
store-quiet l t q s h a =
    let x = a.node in
    let o = outside-store (node_start x) 32 t t s a.into (outside-start (node_start x) 32 t) in
    unreached-quiet (view_from t q) (view_from (do_store s t) q) x (same-nodes (else-header t (do_store s t) x o)) refl
    (view-else t (do_store s t) x o a.some) h (λ e. omega (arith, a.some)) a.off l

away-quiet : (l : ℕ) (ss : List Store) (t : Words) (q : ℕ) → HasLeft (view_from t q) nothing → Each (Away (reached (view_from t q))) ss
    → Same l (view_from t q) (view_from (apply ss t) q) × Straight l (view_from (apply ss t) q)
unfolding apply
away-quiet l [] t q h a = (same-refl l (view_from t q), none-straight (view_from t q) h.left.2 l)
away-quiet l (s ∷ ss) t q h a =
    let k = away-keeps (s ∷ []) t q nothing h (a.0, tt) in
    let i = away-quiet l ss (do_store s t) q k.left (rw k.reached a.1) in (
      same-trans l (view_from t q) (view_from (do_store s t) q) (view_from (apply ss (do_store s t)) q)
          (store-quiet l t q s h a.0).0 i.0,
      i.1,
    )

module _ (w : ℕ) (ws : List ℕ) (t : Words) (y : Leftover) (low : Low w ws) (f : Tree w ws t y) (ss : List Store)
    (a : Each (Away (taken ws t)) ss) where
  other-quiet : (x : ℕ) → Memᴰ x ws → (l : ℕ) → Quiet (tree_at x) l t ss
  other-quiet x m l j =
      let b = each-take (Away (taken ws t)) j ss a in
      let e = head-same w ws t y low f (take j ss) b x (each-mem (λ (x : ℕ). x < 8) low.1 m) in
      let p = away-quiet l (take j ss) t (at t x) (each-mem (λ (x : ℕ). HasLeft (tree_at x t) nothing) f.others m)
      (away-one w ws t y low f (take j ss) b x m) in
      record { same = rw e p.0; straight = rw e p.1 }

  -- every level of the others is quiet
  pub others-quiet : Each (λ (x : ℕ). (l : ℕ) → Quiet (tree_at x) l t ss) ws
  others-quiet = mem-each (λ (x : ℕ). (l : ℕ) → Quiet (tree_at x) l t ss) ws other-quiet

-- ---- all of them

-- what the levels of the tree of w may do, while those of the others are quiet
abbrev pub OthersQuiet : List ℕ → Words → List Store → Type 0
OthersQuiet ws t ss = Each (λ (x : ℕ). (l : ℕ) → Quiet (tree_at x) l t ss) ws

abbrev pub AllQuiet : ℕ → List ℕ → Words → List Store → Type 0
AllQuiet w ws t ss = ((l : ℕ) → Quiet (tree_at w) l t ss) × OthersQuiet ws t ss

abbrev pub Ways : ℕ → List ℕ → Words → List Store → Type 0
Ways w ws t ss = ((l : ℕ) → Way (tree_at w) l t ss) × OthersQuiet ws t ss

pub quiet-ways : (w : ℕ) (ws : List ℕ) (t : Words) (ss : List Store) → AllQuiet w ws t ss → Ways w ws t ss
quiet-ways w ws t ss q = (λ l. inl (inl (q.0 l)), q.1)

pub others-append : (ws : List ℕ) (t : Words) (ss us : List Store) → OthersQuiet ws t ss → OthersQuiet ws (apply ss t) us
    → OthersQuiet ws t (ss ++ us)
others-append ws t ss us p q =
    Each-map _ (λ (x : ℕ). (l : ℕ) → Quiet (tree_at x) l t (ss ++ us)) ws (λ x h l. quiet-append (tree_at x) l t ss us (h.0 l) (h.1 l))
    (each-both (λ (x : ℕ). (l : ℕ) → Quiet (tree_at x) l t ss) (λ (x : ℕ). (l : ℕ) → Quiet (tree_at x) l (apply ss t) us) ws p q)

pub nil-others : (w : ℕ) (ws : List ℕ) (t : Words) → Tree w ws t nothing → OthersQuiet ws t []
nil-others w ws t f =
    Each-map (λ (x : ℕ). HasLeft (tree_at x t) nothing) (λ (x : ℕ). (l : ℕ) → Quiet (tree_at x) l t []) ws
    (λ x h l. quiet-nil (tree_at x) l t (none-straight (tree_at x t) h.left.2 l)) f.others
