-- A call's number goes by its own tree and the count of free nodes: on views that agree on the reached nodes all is the same that it reads.
use Rattle.std.proofs.Common.{◌≡◌, ℕ, zero, suc, ◌+◌, ◌-◌, ◌≤◌, Bool, true, false, cond, ◌&&◌, ◌||◌, eqb, ltb, leb, ◌≢◌, ◌⊎◌, List, [], ◌∷◌}
use Rattle.std.proofs.Common.{length, get_or, sym, refl, ap, ◌∙◌, inl, inr, arith, ext_get_or, ltb-false, ltb-true, le-ltb, lt-ltb, eq-eqb}
use Rattle.std.proofs.Common.{leb-true}
use mathlib.Core.List.{Memᴰ}
use mathlib.Core.Option.{Option}
use borrow.Author.Tests.{lt-leb}
use Rattle.model.specs.Table.{Words, at, nodes, node_start, has_node, node, spare, root_word, no_collection}
use Rattle.model.specs.Slots.{Slot, NodeView, View, height, used, clear_in, node_view, view_of}
use Rattle.model.specs.Search.{below, within, path, kept, filter}
use Rattle.model.specs.Reached.{reached, mapping, map_of}
use Rattle.model.specs.SoundTest.{elem, all, Leftover, leftover, has_room, sound}
use Rattle.model.specs.Sound.{Sound}
use Rattle.model.specs.Writes.{unreachable, Call, insertion, deletion, class_change, repair}
use Rattle.model.specs.Refusals.{refusal}
use Rattle.model.specs.Demand2.{Names, SameTree, OwnNumber}
use Rattle.list_laws.proofs.Tools.{Each, Each-map, all-same, same-or-not}
use Rattle.list_laws.proofs.Members.{mem-each, elem-iff}
use Rattle.list_laws.proofs.Filters.{mem-filter}
use Rattle.tree_laws.proofs.Levels.{Orderly, row_at}
use Rattle.tree_laws.proofs.Rows.{each-here}
use Rattle.tree_laws.proofs.Cover.{cover}
use Rattle.tree_laws.proofs.Parents.{sibling-reached}
use Rattle.tree_laws.proofs.SearchLaw.{path-at, path-length, path-reached}
use Rattle.change_laws.proofs.Parts.{HasLeft, has-left-iff, sound-left}
use Rattle.change_laws.proofs.Unreached.{unreached-keeps}
use Rattle.step_laws.proofs.RepairedView.{lacking_in}
use Rattle.step_laws.proofs.SamePaths.{row-filter}
use Rattle.step_laws.proofs.Judged.{run_by, full_later, run_later}
use Rattle.table_laws.proofs.Collections.{by-number}
use Rattle.table_laws.proofs.Header.{header-iff}
use Rattle.sound_laws.proofs.Same.{reached-same}
use Rattle.two_laws.proofs.AcceptedTwo.{there}
use Rattle.two_laws.proofs.SearchTwo.{sound-head, sound-view}
use Rattle.two_laws.proofs.SameTwo.{first-there, second-there, sound-same}
use Rattle.two_laws.proofs.JudgedTwo.{number_by, accept-own}

-- ---- two views that agree on the reached nodes

view-same : (u w : View) → u.nodes ≡ w.nodes → u.root ≡ w.root → ((i : ℕ) → u.node i ≡ w.node i) → u ≡ w
view-same u w a b c = λ i. record { nodes = a i; root = b i; node = λ n. c n i }

-- what is kept of v
record Same (v w : View) (z : Leftover) : Type 0 where
  left : HasLeft w z
  reached : reached w ≡ reached v
  mapping : mapping w ≡ mapping v

module _ (v v' : View) (nodes-same : v'.nodes ≡ v.nodes) (root-same : v'.root ≡ v.root)
    (agree : (n : ℕ) → Memᴰ n (reached v) → v'.node n ≡ v.node n)
    (M : ℕ) (none : v'.node 0 ≡ v.node 0) (past : (n : ℕ) → M ≤ n → v'.node n ≡ v.node n) (z : Leftover) (l : HasLeft v z) where
  -- the first k nodes as v' has them, the others as v
  abbrev mixed : ℕ → View
  mixed k = record { nodes = v.nodes; root = v.root; node = λ (i : ℕ). cond (ltb i k) (v'.node i) (v.node i) }

  at-same : (i k : ℕ) → i ≢ k → ltb i (suc k) ≡ ltb i k
  at-same i k q = go (ltb i k) refl
    where
      go : (b : Bool) → ltb i k ≡ b → ltb i (suc k) ≡ ltb i k
      go true e = rw (e, lt-ltb i (suc k) (omega (arith, ltb-true i k e))) refl
      go false e = rw (e, le-ltb i (suc k) (omega (arith, ltb-false i k e, q))) refl

  else-same : (k i : ℕ) → i ≢ k → (mixed (suc k)).node i ≡ (mixed k).node i
  else-same k i q = ap (λ (b : Bool). cond b (v'.node i) (v.node i)) (at-same i k q)

  -- if node k is the same in both
  kept-whole : (k : ℕ) → v'.node k ≡ v.node k → Same v (mixed k) z → Same v (mixed (suc k)) z
  kept-whole k e s = rw (view-same (mixed (suc k)) (mixed k) refl refl (λ i. go i (same-or-not i k))) s
    where
      either : (b c : Bool) (x y : NodeView) → x ≡ y → cond b x y ≡ cond c x y
      either true true x y q = refl
      either true false x y q = q
      either false true x y q = sym q
      either false false x y q = refl

      go : (i : ℕ) → (i ≡ k) ⊎ (i ≢ k) → (mixed (suc k)).node i ≡ (mixed k).node i
      go i (inl q) = either (ltb i (suc k)) (ltb i k) (v'.node i) (v.node i) (rw q e)
      go i (inr q) = else-same k i q

  next : (k : ℕ) → Same v (mixed k) z → Same v (mixed (suc k)) z
  next k s = go (elem k (reached v)) refl (same-or-not k 0)
    where
      go : (b : Bool) → elem k (reached v) ≡ b → (k ≡ 0) ⊎ (k ≢ 0) → Same v (mixed (suc k)) z
      go b e (inl q) = kept-whole k (rw q none) s
      go true e (inr q) = kept-whole k (agree k ((elem-iff k (reached v)).0 e)) s
      go false e (inr q) =
          let u = unreached-keeps (mixed k) (mixed (suc k)) k refl refl (record { else = else-same k; here = refl }) z
          s.left q (rw s.reached e) in
          record { left = u.left; reached = u.reached ∙ s.reached; mapping = u.mapping ∙ s.mapping }

  mixes : (k : ℕ) → Same v (mixed k) z
  mixes zero =
      rw (view-same (mixed 0) v refl refl (λ i. ap (λ (b : Bool). cond b (v'.node i) (v.node i)) (le-ltb i 0 (omega arith))))
      (record { left = l; reached = refl; mapping = refl })
  mixes (suc k) = next k (mixes k)

  all-same-view : Same v v' z
  all-same-view = rw (view-same v' (mixed M) nodes-same root-same (λ i. go i (ltb i M) refl)) (mixes M)
    where
      go : (i : ℕ) (b : Bool) → ltb i M ≡ b → v'.node i ≡ cond (ltb i M) (v'.node i) (v.node i)
      go i true e = rw e
      go i false e = past i (ltb-false i M e) ∙ rw e

-- ---- paths and runs of two orderly views that agree on the reached nodes: SamePaths of step_laws asks that all nodes agree, but not in
-- all that they have

module _ (v w : View) (a : Orderly v) (b : Orderly w) (r : w.root ≡ v.root) (agree : (n : ℕ) → Memᴰ n (reached v) → w.node n ≡ v.node n)
    (e : reached w ≡ reached v) where
  abbrev In : ℕ → Type 0
  In n = Memᴰ n (reached v)

  root-in : In v.root
  root-in = (each-here v In (height v) (v.root ∷ []) (mem-each In (reached v) (λ n m. m))).0

  height-own : height w ≡ height v
  height-own = ap (λ (n : ℕ). (w.node n).level) r ∙ ap (λ (m : NodeView). m.level) (agree v.root root-in)

  within-own : (n k : ℕ) → In n → within w n k ≡ within v n k
  unfolding below
  within-own n k m = ap (λ (x : NodeView). eqb x.sibling 0 || ltb k (w.node x.sibling).fence) (agree n m)
      ∙ go (same-or-not (v.node n).sibling 0)
    where
      go : ((v.node n).sibling ≡ 0) ⊎ ((v.node n).sibling ≢ 0)
          → (eqb (v.node n).sibling 0 || ltb k (w.node (v.node n).sibling).fence)
          ≡ (eqb (v.node n).sibling 0 || ltb k (v.node (v.node n).sibling).fence)
      go (inl z) = rw (eq-eqb (v.node n).sibling 0 z)
      go (inr z) = ap (λ (x : NodeView). eqb (v.node n).sibling 0 || ltb k x.fence) (agree (v.node n).sibling (sibling-reached v n a m z))

  kept-own : (n : ℕ) → In n → kept w n ≡ kept v n
  unfolding kept
  kept-own n m =
      ap (λ (x : NodeView). filter (λ (s : Slot). within w n s.key) x.shown) (agree n m)
      ∙ ap (λ (q : Slot → Bool). filter q (v.node n).shown) (λ i s. within-own n s.key m i)

  filter-own : (d : ℕ) (ns : List ℕ) → Each In ns → filter (λ (n : ℕ). eqb (w.node n).level d) ns
      ≡ filter (λ (n : ℕ). eqb (v.node n).level d) ns
  unfolding filter
  filter-own d [] h = refl
  filter-own d (n ∷ ns) h =
      ap (λ (x : NodeView). elim (eqb x.level d) as (λ c. List ℕ)
      [ true ↦ n ∷ filter (λ (n : ℕ). eqb (w.node n).level d) ns | false ↦ filter (λ (n : ℕ). eqb (w.node n).level d) ns ])
      (agree n h.0)
      ∙ ap (λ (l : List ℕ). elim (eqb (v.node n).level d) as (λ c. List ℕ) [ true ↦ n ∷ l | false ↦ l ]) (filter-own d ns h.1)

  cover-own : (k : ℕ) (ns : List ℕ) → Each In ns → cover w k ns ≡ cover v k ns
  unfolding cover
  cover-own k [] h = refl
  cover-own k (n ∷ ns) h =
      ap (λ (c : Bool). elim c as (λ c. ℕ) [ true ↦ n | false ↦ cover w k ns ]) (within-own n k h.0)
      ∙ ap (λ (m : ℕ). elim (within v n k) as (λ c. ℕ) [ true ↦ n | false ↦ m ]) (cover-own k ns h.1)

  row-in : (d : ℕ) → d ≤ height v → Each In (row_at v d)
  row-in d h = rw (row-filter v d a h) (mem-each In _ (λ n m. ((mem-filter (λ (n : ℕ). eqb (v.node n).level d) n (reached v)).0 m).0))

  row-own : (d : ℕ) → d ≤ height v → row_at w d ≡ row_at v d
  row-own d h =
      row-filter w d b (rw height-own h) ∙ ap (filter (λ (n : ℕ). eqb (w.node n).level d)) e
      ∙ filter-own d (reached v) (mem-each In (reached v) (λ n m. m)) ∙ sym (row-filter v d a h)

  path-own : (k : ℕ) → path w k ≡ path v k
  path-own k = ext_get_or 0 (path w k) (path v k) (path-length w k ∙ ap suc height-own ∙ sym (path-length v k)) (λ i h.
      let g : i ≤ height v = omega (arith, path-length w k, height-own) in
      let d = height v - i in
      let x : height w - d ≡ i = omega (arith, height-own) in
      let y : height v - d ≡ i = omega arith in
      sym (ap (λ (j : ℕ). get_or (path w k) j 0) x) ∙ path-at w k d b (omega (arith, height-own)) ∙ ap (cover w k) (row-own d (omega arith))
      ∙ cover-own k (row_at v d) (row-in d (omega arith))
      ∙ sym (path-at v k d a (omega arith)) ∙ ap (λ (j : ℕ). get_or (path v k) j 0) y)

  run-by : (p q : ℕ → Bool) (ns : List ℕ) → Each (λ (n : ℕ). p n ≡ q n) ns → run_by p ns ≡ run_by q ns
  unfolding run_by
  run-by p q [] h = refl
  run-by p q (n ∷ ns) h =
      ap (λ (c : Bool). elim c as (λ c. ℕ) [ true ↦ length (n ∷ ns) | false ↦ run_by p ns ]) (all-same p q (n ∷ ns) h)
      ∙ ap (λ (m : ℕ). elim (all q (n ∷ ns)) as (λ c. ℕ) [ true ↦ length (n ∷ ns) | false ↦ m ]) (run-by p q ns h.1)

  run-own : (k : ℕ) → leftover w ≡ leftover v → run_later w k ≡ run_later v k
  run-own k left =
      ap (run_by (full_later w)) (path-own k)
      ∙ run-by (full_later w) (full_later v) (path v k) (Each-map In (λ (n : ℕ). full_later w n ≡ full_later v n) (path v k)
      (λ n m. ap (λ (ks : List Slot). eqb (length ks + lacking_in (leftover w) n) 11) (kept-own n m)
      ∙ ap (λ (y : Option Leftover). eqb (length (kept v n) + lacking_in y n) 11) left) (path-reached v k a))

-- ---- two tables

-- a number that no node has reads the same in each
no-node : (t t' : Words) (i : ℕ) → has_node t i ≡ false → has_node t' i ≡ false → node_view t' i ≡ node_view t i
unfolding used clear_in node spare
no-node t t' i h h' = rw (h, h')

zero-none : (t : Words) → has_node t 0 ≡ false
unfolding has_node
zero-none t = refl

past-none : (t : Words) (i : ℕ) → length t ≤ i → has_node t i ≡ false
unfolding has_node node_start
past-none t i h = go (leb 1 i) refl
  where
    go : (b : Bool) → leb 1 i ≡ b → (b && leb (node_start i + 32) (length t)) ≡ false
    go true e = lt-leb (node_start i + 32) (length t) (omega (arith, leb-true 1 i e, h))
    go false e = refl

module _ (n : ℕ) (t t' : Words) (q : Sound t) (q' : Sound t') (h : no_collection n t ≡ false) (long : length t' ≡ length t)
    (same : SameTree n t t')
    (free : length (unreachable t') ≡ length (unreachable t)) where
  s : sound t ≡ true
  s = (sound-same t).1 q

  s' : sound t' ≡ true
  s' = (sound-same t').1 q'

  abbrev v : View
  v = view_of n t

  abbrev v' : View
  v' = view_of n t'

  there' : no_collection n t' ≡ false
  there' = by-number t (λ (j : ℕ). at t' (root_word j) ≡ at t (root_word j) → no_collection j t' ≡ false) (λ e. first-there t')
      (λ z e. second-there t' (λ y. z (sym e ∙ y))) n h same.0

  left : (z : Leftover) × HasLeft v z × (has_room v z ≡ true)
  left = (sound-left v).0 (sound-view (root_word n) t s (there n t h).1)

  agrees : (m : ℕ) → Memᴰ m (reached v) → v'.node m ≡ v.node m
  agrees m i = same.1 m ((reached-same v ((has-left-iff v left.0).1 left.1).0 m).1 ((elem-iff m (reached v)).1 i))

  nodes-are : nodes t' ≡ nodes t
  nodes-are = omega (arith, ((header-iff t).0 (sound-head t s)).size.long, ((header-iff t').0 (sound-head t' s')).size.long, long)

  whole : Same v v' left.0
  whole =
      all-same-view v v' nodes-are same.0 agrees (length t) (no-node t t' 0 (zero-none t) (zero-none t'))
      (λ i l. no-node t t' i (past-none t i l) (past-none t' i (rw long l))) left.0 left.1

  leftovers : leftover v' ≡ leftover v
  leftovers = ((has-left-iff v' left.0).1 whole.left).1 ∙ sym ((has-left-iff v left.0).1 left.1).1

  runs : (k : ℕ) → run_later v' k ≡ run_later v k
  runs k = run-own v v' left.1.orderly whole.left.orderly same.0 agrees whole.reached k leftovers

  heights : height v' ≡ height v
  heights = height-own v v' left.1.orderly whole.left.orderly same.0 agrees whole.reached

  numbers : (x : Call) → Names n x → (words dock : ℕ) → refusal x words dock t' ≡ refusal x words dock t
  numbers (insertion m k r c) e words dock =
      let x = insertion n k r c in
      let g : number_by x words dock (map_of n t') (run_later v' k) (height v') (length (unreachable t'))
      ≡ number_by x words dock (map_of n t) (run_later v k) (height v) (length (unreachable t)) =
      ap (λ (ps : List Slot). number_by x words dock ps (run_later v' k) (height v') (length (unreachable t'))) whole.mapping
      ∙ ap (λ (j : ℕ). number_by x words dock (map_of n t) j (height v') (length (unreachable t'))) (runs k)
      ∙ ap (λ (j : ℕ). number_by x words dock (map_of n t) (run_later v k) j (length (unreachable t'))) heights
      ∙ ap (λ (j : ℕ). number_by x words dock (map_of n t) (run_later v k) (height v) j) free in
      rw e (accept-own x words dock t' s' there' ∙ g ∙ sym (accept-own x words dock t s h))
  numbers (deletion m k) e words dock =
      let x = deletion n k in
      let g : number_by x words dock (map_of n t') 0 0 (length (unreachable t'))
      ≡ number_by x words dock (map_of n t) 0 0 (length (unreachable t)) =
      ap (λ (ps : List Slot). number_by x words dock ps 0 0 (length (unreachable t'))) whole.mapping
      ∙ ap (λ (j : ℕ). number_by x words dock (map_of n t) 0 0 j) free in
      rw e (accept-own x words dock t' s' there' ∙ g ∙ sym (accept-own x words dock t s h))
  numbers (class_change m k c) e words dock =
      let x = class_change n k c in
      let g : number_by x words dock (map_of n t') 0 0 (length (unreachable t'))
      ≡ number_by x words dock (map_of n t) 0 0 (length (unreachable t)) =
      ap (λ (ps : List Slot). number_by x words dock ps 0 0 (length (unreachable t'))) whole.mapping
      ∙ ap (λ (j : ℕ). number_by x words dock (map_of n t) 0 0 j) free in
      rw e (accept-own x words dock t' s' there' ∙ g ∙ sym (accept-own x words dock t s h))
  numbers repair e words dock = absurd e

-- Every call of a collection gets its number by its own tree and the count of free nodes.
pub own-number : OwnNumber
own-number n t t' q q' h long same free x e words dock = numbers n t t' q q' h long same free x e words dock
