-- Two orderly views with the same root, levels, fences and siblings that reach the same nodes: the same rows, leaves and search paths.
use Rattle.std.proofs.Common.{◌≡◌, ℕ, zero, suc, ◌+◌, ◌-◌, ◌<◌, ◌≤◌, Bool, true, false, ◌||◌, eqb, ltb, ◌≢◌, List, [], ◌∷◌, get_or, sym}
use Rattle.std.proofs.Common.{refl, ap, ◌∙◌, append-nil, arith, ext_get_or, eq-eqb, ne_eqb}
use mathlib.Core.Path.{fun_ext}
use Rattle.model.specs.Slots.{NodeView, View, height}
use Rattle.model.specs.Search.{below, within, path}
use Rattle.model.specs.Reached.{filter, flat, children, reached_from, leaves_from, reached}
use Rattle.view_laws.proofs.NodeViews.{level_of, bare, level-eq}
use Rattle.list_laws.proofs.Tools.{Each, Each-map}
use Rattle.list_laws.proofs.Filters.{filter-all, filter-none, filter-append}
use Rattle.tree_laws.proofs.Rows.{At}
use Rattle.tree_laws.proofs.Cover.{cover}
use Rattle.tree_laws.proofs.Levels.{Orderly, Level, level-lower, level-root, row_at}
use Rattle.tree_laws.proofs.SearchLaw.{path-at, path-length}

-- ---- the row of a level has the reached nodes of that level, in their order

module _ (v : View) (d : ℕ) where
  abbrev on_it : ℕ → Bool
  on_it n = eqb (v.node n).level d

  all-on : (ns : List ℕ) → Each (At v d) ns → filter on_it ns ≡ ns
  all-on ns h = filter-all on_it ns (Each-map (At v d) (λ (n : ℕ). on_it n ≡ true) ns (λ n a. eq-eqb _ _ a.level) h)

  none-on : (h : ℕ) (ns : List ℕ) → h ≢ d → Each (At v h) ns → filter on_it ns ≡ []
  none-on h ns z e = filter-none on_it ns
      (Each-map (At v h) (λ (n : ℕ). on_it n ≡ false) ns (λ n a. ne_eqb _ _ (λ q. z (sym a.level ∙ q))) e)

  none-below : (h : ℕ) (ns : List ℕ) → h < d → Level v h ns → filter on_it (reached_from v h ns) ≡ []
  unfolding reached_from
  none-below zero ns g l = none-on 0 ns (λ e. omega arith) l.row.at
  none-below (suc h) ns g l =
      filter-append on_it ns _
      ∙ rw (none-on (suc h) ns (λ e. omega arith) l.row.at) (none-below h (flat (children v) ns) (omega arith) (level-lower v h ns l))

  level-filter : (h i : ℕ) (ns : List ℕ) → h ≡ i + d → Level v h ns → filter on_it (reached_from v h ns) ≡ leaves_from v i ns
  unfolding reached_from leaves_from
  level-filter zero zero ns e l = let q : 0 ≡ d = omega arith in all-on ns (rw q at l.row.at)
  level-filter zero (suc i) ns e l = absurd (omega arith)
  level-filter (suc h) zero ns e l =
      let q : suc h ≡ d = omega arith in
      filter-append on_it ns _
      ∙ rw (all-on ns (rw q at l.row.at), none-below h (flat (children v) ns) (omega arith) (level-lower v h ns l)) (append-nil ns)
  level-filter (suc h) (suc i) ns e l =
      filter-append on_it ns _
      ∙ rw (none-on (suc h) ns (λ z. omega arith) l.row.at)
      (level-filter h i (flat (children v) ns) (omega arith) (level-lower v h ns l))

  -- the row on level d is made of the reached nodes with level d, in order
  pub row-filter : Orderly v → d ≤ height v → row_at v d ≡ filter (λ (n : ℕ). eqb (v.node n).level d) (reached v)
  row-filter o h = sym (level-filter (height v) (height v - d) (v.root ∷ []) (omega arith) (level-root v o.top o.good))

-- ---- two views

module _ (v w : View) (a : Orderly v) (b : Orderly w) (r : w.root ≡ v.root) (l : (n : ℕ) → bare (w.node n) ≡ bare (v.node n))
    (e : reached w ≡ reached v) where
  -- trees with the same root, whose nodes differ in slots at most, have the same height
  pub height-same : height w ≡ height v
  height-same = ap (level_of w) r ∙ level-eq (l v.root)

  pub row-same : (d : ℕ) → d ≤ height v → row_at w d ≡ row_at v d
  row-same d h = row-filter w d b (rw height-same h)
      ∙ ap (λ (g : ℕ → NodeView). filter (λ (n : ℕ). eqb (g n).level d) (reached w)) (fun_ext l)
      ∙ ap (filter (λ (n : ℕ). eqb (v.node n).level d)) e ∙ sym (row-filter v d a h)

  within-same : (n k : ℕ) → within w n k ≡ within v n k
  unfolding below
  within-same n k = ap (λ (m : NodeView). eqb m.sibling 0 || ltb k (w.node m.sibling).fence) (l n)
      ∙ ap (λ (m : NodeView). eqb (v.node n).sibling 0 || ltb k m.fence) (l (v.node n).sibling)

  cover-same : (k : ℕ) (ns : List ℕ) → cover w k ns ≡ cover v k ns
  unfolding cover
  cover-same k [] = refl
  cover-same k (n ∷ ns) =
      ap (λ (c : Bool). elim c as (λ c. ℕ) [ true ↦ n | false ↦ cover w k ns ]) (within-same n k)
      ∙ ap (λ (m : ℕ). elim (within v n k) as (λ c. ℕ) [ true ↦ n | false ↦ m ]) (cover-same k ns)

  -- trees with the same root, whose nodes reached are the same but for slots, have the same path to k
  pub path-same : (k : ℕ) → path w k ≡ path v k
  path-same k = ext_get_or 0 (path w k) (path v k) (path-length w k ∙ ap suc height-same ∙ sym (path-length v k)) (λ i h.
      let g : i ≤ height v = omega (arith, path-length w k, height-same) in
      let d = height v - i in
      let x : height w - d ≡ i = omega (arith, height-same) in
      let y : height v - d ≡ i = omega arith in
      sym (ap (λ (j : ℕ). get_or (path w k) j 0) x) ∙ path-at w k d b (omega (arith, height-same)) ∙ cover-same k (row_at w d)
      ∙ ap (cover v k) (row-same d (omega arith)) ∙ sym (path-at v k d a (omega arith)) ∙ ap (λ (j : ℕ). get_or (path v k) j 0) y)
