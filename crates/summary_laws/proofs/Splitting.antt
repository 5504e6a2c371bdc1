-- The run split by marks: nodes looked up once, fresh ones by the marks. On a settled table with true marks these are the stores of the
-- plain
-- splits, and the marks stay true.
use Rattle.std.proofs.Common.{◌≡◌, ℕ, zero, suc, ◌-◌, ◌<◌, ◌≤◌, true, cond, ltb, List, [], ◌∷◌, ◌++◌, length, get_or, drop, sym, refl, ap}
use Rattle.std.proofs.Common.{◌∙◌, append_assoc, append-nil, arith, drop-cons, eq-eqb}
use mathlib.Core.List.{Memᴰ}
use lib.Seq.{drop-length}
use Rattle.model.specs.Table.{Words, nodes, root_word, in_range}
use Rattle.model.specs.Slots.{node_view, height, view_of, full}
use Rattle.model.specs.Search.{path}
use Rattle.model.specs.Reached.{reached, reached_all}
use Rattle.model.specs.SoundTest.{elem, nothing}
use Rattle.model.specs.Orders.{Store, apply}
use Rattle.model.specs.Writes.{fresh, middle, split, standing_in, standing, run, splits}
use Rattle.model.specs.Marks.{put}
use Rattle.model.specs.Summary.{free_after, full_node, roomy, can_split, Going, going, split_way, run_of}
use Rattle.list_laws.proofs.Tools.{and-iff, leb-iff}
use Rattle.list_laws.proofs.Members.{each-mem}
use Rattle.list_laws.proofs.Distinct.{UpTo}
use Rattle.cut_laws.proofs.Applying.{apply-append}
use Rattle.tree_laws.proofs.SearchLaw.{path-length}
use Rattle.tree_laws.proofs.Levels.{reached-numbers}
use Rattle.tree_laws.proofs.Rows.{range-iff}
use Rattle.step_laws.specs.Parts.{FullNode}
use Rattle.step_laws.proofs.Fresh.{Free}
use Rattle.step_laws.proofs.TreeAt.{Fine}
use Rattle.step_laws.proofs.Split.{split-standing, split-new, split-half}
use Rattle.two_laws.specs.Parts.{split_for, Ready}
use Rattle.two_laws.proofs.TwoLaw.{taken, Tree, Low, tree-fine}
use Rattle.two_laws.proofs.SplitTwo.{two-nodes}
use Rattle.two_laws.proofs.Arrange.{Arr, arr-low, settled-tree, free-fresh}
use Rattle.two_laws.proofs.InsertTwo.{stands-reached, first-arr, ready-next, first-others}
use Rattle.summary_laws.proofs.Marks.{reached-own, MarksTrue, free-fresh as marks-fresh, marks-more}

-- ---- the nodes of the run, from the highest down

unfoldable pub ways_down : (n : ℕ) → Words → (m k : ℕ) → List ℕ
ways_down n t zero k = []
ways_down n t (suc l) k = standing n t l k ∷ ways_down n t l k

drop-down : (n : ℕ) (t : Words) (m k : ℕ) → m ≤ suc (height (view_of n t))
    → drop (suc (height (view_of n t)) - m) (path (view_of n t) k) ≡ ways_down n t m k
unfolding ways_down standing_in
drop-down n t zero k h = let e : suc (height (view_of n t)) - 0 ≡ length (path (view_of n t) k) =
    omega (arith, path-length (view_of n t) k) in rw e (drop-length (path (view_of n t) k))
drop-down n t (suc m) k h =
    let v = view_of n t in
    let e : suc (height v) - suc m ≡ height v - m = omega arith in
    let i : suc (height v - m) ≡ suc (height v) - m = omega arith in
    rw e (drop-cons (path v k) (height v - m) 0 (omega (arith, path-length v k))
    ∙ ap (λ (j : ℕ). get_or (path v k) (height v - m) 0 ∷ drop j (path v k)) i
    ∙ ap (λ (l : List ℕ). get_or (path v k) (height v - m) 0 ∷ l) (drop-down n t m k (omega arith)))

pub run-down : (n : ℕ) (t : Words) (k : ℕ) → run n t k ≤ suc (height (view_of n t)) → run_of n t k ≡ ways_down n t (run n t k) k
unfolding run_of
run-down n t k h = rw (path-length (view_of n t) k) (drop-down n t (run n t k) k h)

pub same-down : (n : ℕ) (t t' : Words) (m k : ℕ) → ((d : ℕ) → d < m → standing n t' d k ≡ standing n t d k)
    → ways_down n t' m k ≡ ways_down n t m k
unfolding ways_down
same-down n t t' zero k h = refl
same-down n t t' (suc m) k h = rw (h m (omega arith), same-down n t t' m k (λ d l. h d (omega arith)))

-- ---- one split

way-goes : (N k a p : ℕ) (rest : List ℕ) (ss : List Store) (t ms : Words) (b : ℕ) → free_after N ms a ≡ b → can_split N t a b p ≡ true
    → split_way N k (a ∷ rest) (going ss t ms p)
    ≡ split_way N k rest (going (ss ++ split t a b p) (apply (split t a b p) t) (put ms b) (cond (ltb k (middle t a).key) a b))
unfolding split_way
way-goes N k a p rest ss t ms b e c =
    let can : can_split N t a (free_after N ms a) p ≡ true = rw e c in
    rw (can, split_way) (ap
    (λ (b : ℕ). split_way N k rest
    (going (ss ++ split t a b p) (apply (split t a b p) t) (put ms b) (cond (ltb k (middle t a).key) a b))) e)

module _ (l n : ℕ) (ws : List ℕ) (t : Words) (k : ℕ) (arr : Arr (root_word n) ws t) (r : Ready (suc l) n t k) (ms : Words)
    (m : MarksTrue ms t) (N : ℕ) (N-is : nodes t ≡ N) where
  low : Low (root_word n) ws
  low = arr-low (root_word n) ws t arr

  tree : Tree (root_word n) ws t nothing
  tree = settled-tree (root_word n) ws t arr r.settled

  fine : Fine (root_word n) (taken ws t) t nothing
  fine = tree-fine (root_word n) ws t low nothing tree

  abbrev a : ℕ
  a = standing n t l k

  abbrev p : ℕ
  p = standing n t (suc l) k

  abbrev b : ℕ
  b = fresh t (standing n t l k)

  abbrev t₁ : Words
  t₁ = apply (split_for n t l k) t

  reached-a : Memᴰ (standing n t l k) (reached (view_of n t))
  reached-a = stands-reached n ws t low tree k l (omega (arith, r.high))

  a-in : in_range (nodes t) (standing n t l k) ≡ true
  a-in = (range-iff (nodes t) (standing n t l k)).1 (each-mem (UpTo (nodes t)) (reached-numbers (view_of n t) tree.left.orderly) reached-a)

  reached-p : Memᴰ (standing n t (suc l) k) (reached (view_of n t))
  reached-p = stands-reached n ws t low tree k (suc l) r.high

  p-in : in_range (nodes t) (standing n t (suc l) k) ≡ true
  p-in = (range-iff (nodes t) (standing n t (suc l) k)).1
      (each-mem (UpTo (nodes t)) (reached-numbers (view_of n t) tree.left.orderly) reached-p)

  hidden-none : (m : ℕ) → Memᴰ m (reached (view_of n t)) → (node_view t m).hidden ≡ 0
  hidden-none m i = each-mem (λ (m : ℕ). (node_view t m).hidden ≡ 0) tree.left.left.0 i

  free : Free (root_word n) (taken ws t) t (fresh t (standing n t l k))
  free = free-fresh (root_word n) ws t a arr tree reached-a (omega (arith, r.enough))

  given : FullNode (view_of n t) k l
  given = record { high = r.high; full = r.full l (omega arith); roomy = r.above }

  same-fresh : free_after N ms (standing n t l k) ≡ fresh t (standing n t l k)
  same-fresh = ap (λ (N : ℕ). free_after N ms a) (sym N-is) ∙ marks-fresh ms t m a a-in

  later : Ready l n t₁ k
  later = ready-next l n ws t k arr r

  arr₁ : Arr (root_word n) ws t₁
  arr₁ = first-arr l n ws t k arr r

  b-reached : elem (fresh t (standing n t l k)) (reached_all t₁) ≡ true
  b-reached = reached-own (root_word n) ws t₁ b arr₁ (split-new (root_word n) (taken ws t) t fine k l given b free)

  size₁ : nodes t₁ ≡ nodes t
  size₁ = two-nodes (root_word n) ws t low tree k l given b free

  marks₁ : MarksTrue (put ms (fresh t (standing n t l k))) t₁
  marks₁ = marks-more ms t m t₁ (two-nodes (root_word n) ws t low tree k l given b free) b free.range
      (first-others l n ws t k arr r) b-reached

  can : can_split N t (standing n t l k) (fresh t (standing n t l k)) (standing n t (suc l) k) ≡ true
  unfolding full_node roomy full
  can = rw (sym N-is) ((and-iff _ _).1 (
    (and-iff _ _).1 (a-in, (and-iff _ _).1 (eq-eqb _ _ (hidden-none (standing n t l k) reached-a), eq-eqb _ _ (r.full l (omega arith)))),
    (and-iff _ _).1 (
      free.range,
      (and-iff _ _).1 (p-in, (and-iff _ _).1 (eq-eqb _ _ (hidden-none (standing n t (suc l) k) reached-p), (leb-iff _ _).1 r.above)),
    ),
  ))

  pub way-step : (ss : List Store) → split_way N k (ways_down n t (suc l) k) (going ss t ms (standing n t (suc l) k))
      ≡ split_way N k (ways_down n t₁ l k) (going (ss ++ split_for n t l k) t₁ (put ms (fresh t (standing n t l k))) (standing n t₁ l k))
  unfolding ways_down
  way-step ss =
      way-goes N k a p (ways_down n t l k) ss t ms b same-fresh can
      ∙ ap (λ (q : List ℕ). split_way N k q (going (ss ++ split t a b p) t₁ (put ms b) (cond (ltb k (middle t a).key) a b)))
      (sym (same-down n t t₁ l k
      (λ d h. split-standing (root_word n) (taken ws t) t fine k l given b free d (omega (arith, r.high)) (λ e. omega (arith, e)))))
      ∙ ap (λ (u : ℕ). split_way N k (ways_down n t₁ l k) (going (ss ++ split t a b p) t₁ (put ms b) u))
      (sym (split-half (root_word n) (taken ws t) t fine k l given b free))

-- ---- the run

-- what the splits of a run by marks come to, beside the plain splits
pub record WayOf (m n : ℕ) (t : Words) (k : ℕ) (ss : List Store) (g : Going) : Type 0 where
  pub stores : g.stores ≡ ss ++ splits n m t k
  pub table : g.table ≡ apply (splits n m t k) t
  pub marks : MarksTrue g.marks (apply (splits n m t k) t)
  pub under : g.under ≡ standing n (apply (splits n m t k) t) 0 k

pub splits-way : (m n : ℕ) (ws : List ℕ) (t : Words) (k : ℕ) (ms : Words) (ss : List Store) (N : ℕ) → nodes t ≡ N → Arr (root_word n) ws t
    → Ready m n t k → MarksTrue ms t
    → WayOf m n t k ss (split_way N k (ways_down n t m k) (going ss t ms (standing n t m k)))
unfolding splits apply ways_down split_way
splits-way zero n ws t k ms ss N q arr r c = record { stores = sym (append-nil ss); table = refl; marks = c; under = refl }
splits-way (suc l) n ws t k ms ss N q arr r c =
    let s₁ = split_for n t l k in
    let t₁ = apply s₁ t in
    let ih = splits-way l n ws t₁ k (put ms (fresh t (standing n t l k))) (ss ++ s₁) N (size₁ l n ws t k arr r ms c N q ∙ q)
    (arr₁ l n ws t k arr r ms c N q) (later l n ws t k arr r ms c N q) (marks₁ l n ws t k arr r ms c N q) in
    let after : apply (splits n l t₁ k) t₁ ≡ apply (s₁ ++ splits n l t₁ k) t = sym (apply-append s₁ (splits n l t₁ k) t) in
    rw (way-step l n ws t k arr r ms c N q ss) (record {
      stores = ih.stores ∙ append_assoc ss s₁ (splits n l t₁ k);
      table = ih.table ∙ after;
      marks = rw (sym after) ih.marks;
      under = ih.under ∙ ap (λ (x : Words). standing n x 0 k) after;
    })
