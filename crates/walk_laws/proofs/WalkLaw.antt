-- What the walk answers on every view: unsound, or the number of nodes reached and what is unfinished in them.
use Rattle.std.proofs.Common.{◌≡◌, ℕ, zero, suc, ◌+◌, ◌≤◌, Bool, true, false, cond, ◌&&◌, eqb, leb, ◌↔◌, List, [], ◌∷◌, length, sym, refl}
use Rattle.std.proofs.Common.{ap, ◌∙◌, append-nil, zero-add, arith, length-append, ne_eqb, le-leb, leb-true}
use mathlib.Core.Bool.{false≢true}
use Rattle.std.specs.Prelude.{None, Some}
use Rattle.std.proofs.lemmas.Option.{same_Some}
use Rattle.model.specs.declared.Unfinished.{Unfinished}
use Rattle.model.specs.declared.Visited.{Visited}
use Rattle.model.specs.Table.{in_range}
use Rattle.model.specs.Slots.{Slot, View, height}
use Rattle.model.specs.Reached.{flat, head_or, pointers, named, next_child, children, reached_from, reached, mapping}
use Rattle.model.specs.SoundTest.{all, distinct, node_ok, root_ok, finished, together, missing_at, row_unfinished, own, unfinished_at}
use Rattle.model.specs.SoundTest.{unfinished, recordings_ok, orderly, leftover_of, leftover, is_allowed, sound_view}
use Rattle.list_laws.proofs.Tools.{decode, and-iff, refuted, same-test, Each, Each-append, Each-split, Each-map, all-each}
use Rattle.tree_laws.proofs.Members.{UpTo, pigeonhole}
use Rattle.tree_laws.proofs.Rows.{Good, At, Deep, children-inner}
use Rattle.tree_laws.proofs.Levels.{RootFacts, root-iff, Level, level-root, level-lower, once-follows, sound-orderly}
use Rattle.tree_laws.proofs.Leftovers.{at-leaf}
use Rattle.walk_laws.specs.Walk.{Visit, fits, visits_of, ways, visits_below, Tally, tally, check, root_visit, walk}
use Rattle.walk_laws.proofs.Sums.{Monoid, joint, tests, numbers, sum, swap, unit-right, sum-append, all-sum, depth_first, sum-depth-first}
use Rattle.walk_laws.proofs.Run.{visits, check-fold, met, allowed, outcome, fold-outcome}
use Rattle.walk_laws.proofs.Local.{Fits, fits-iff, nodes_of, visits-nodes, visits-level, visits-good, good-alone}

-- ---- what the visits find unfinished

-- on the ways to the children of p: what its row lacks
ways-row : (v : View) (p d : ℕ) (ss : List Slot) (e : ℕ) → sum joint (λ (x : Visit). x.way) (visits_of v p d ss e)
    ≡ row_unfinished v p (pointers ss) e
unfolding visits_of row_unfinished
ways-row v p d [] e = refl
ways-row v p d (s ∷ ss) e = go (eqb (v.node s.pointer).sibling (head_or e (pointers ss))) refl (ways-row v p d ss e)
  where
    go : (b : Bool) → eqb (v.node s.pointer).sibling (head_or e (pointers ss)) ≡ b → sum joint (λ (x : Visit). x.way) (visits_of v p d ss e)
        ≡ row_unfinished v p (pointers ss) e
        → sum joint (λ (x : Visit). x.way) (visits_of v p d (s ∷ ss) e) ≡ row_unfinished v p (pointers (s ∷ ss)) e
    go true c ih = rw (c, visits_of, row_unfinished) ih
    go false c ih = rw (c, visits_of, row_unfinished) (ap (together (missing_at p s.pointer)) ih)

unfinished-inner : (v : View) (d n : ℕ) → (v.node n).level ≡ suc d → unfinished_at v n
    ≡ together (own v n) (row_unfinished v n (named v n) (next_child v n))
unfolding unfinished_at
unfinished-inner v d n e = rw (ne_eqb (v.node n).level 0 (λ z. omega arith))

below-nodes : (v : View) (d n : ℕ) → (v.node n).level ≡ suc d → nodes_of (visits_below v d n) ≡ children v n
unfolding visits_below
below-nodes v d n e = visits-nodes v n d (ways v n) (next_child v n) ∙ sym (children-inner v d n e)

abbrev Met : View → ℕ → Type 0
Met v d = (x : Visit) → x.level ≡ d → Each (Fits v) (visits v d x) → sum joint (met v) (visits v d x)
    ≡ together x.way (sum joint (unfinished_at v) (depth_first v d x.node))

met-row : (v : View) (d : ℕ) → Met v d → (xs : List Visit) → Each (λ (x : Visit). x.level ≡ d) xs → Each (Fits v) (flat (visits v d) xs)
    → sum joint (met v) (flat (visits v d) xs)
    ≡ together (sum joint (λ (x : Visit). x.way) xs) (sum joint (unfinished_at v) (flat (depth_first v d) (nodes_of xs)))
unfolding flat
met-row v d ih [] l h = refl
met-row v d ih (x ∷ xs) l h =
    let u = Each-split (Fits v) (visits v d x) (flat (visits v d) xs) h in
    let here = sum joint (unfinished_at v) (depth_first v d x.node) in
    let rest = sum joint (unfinished_at v) (flat (depth_first v d) (nodes_of xs)) in
    let ways-rest = sum joint (λ (x : Visit). x.way) xs in
    sum-append joint (met v) (visits v d x) (flat (visits v d) xs)
    ∙ ap (λ (y : Unfinished). together y (sum joint (met v) (flat (visits v d) xs))) (ih x l.0 u.0)
    ∙ ap (together (together x.way here)) (met-row v d ih xs l.1 u.1)
    ∙ swap joint x.way here ways-rest rest
    ∙ ap (together (together x.way ways-rest))
    (sym (sum-append joint (unfinished_at v) (depth_first v d x.node) (flat (depth_first v d) (nodes_of xs))))

met-all : (v : View) (d : ℕ) → Met v d
unfolding visits depth_first met visits_below
met-all v zero x e h =
    let n = x.node in
    joint.assoc x.way (own v n) finished
    ∙ ap (together x.way) (sym (at-leaf v n (h.0.level ∙ e)) ∙ sym (unit-right joint (unfinished_at v n)))
met-all v (suc d) x e h =
    let n = x.node in
    let y = sum joint (unfinished_at v) (flat (depth_first v d) (children v n)) in
    let row = row_unfinished v n (named v n) (next_child v n) in
    let r = met-row v d (met-all v d) (visits_below v d n) (visits-level v n d (ways v n) (next_child v n)) h.1 in
    let q : together (sum joint (λ (x : Visit). x.way) (visits_below v d n))
    (sum joint (unfinished_at v) (flat (depth_first v d) (nodes_of (visits_below v d n)))) ≡ together row y
    = rw (below-nodes v d n (h.0.level ∙ e)) (ap (λ (z : Unfinished). together z y) (ways-row v n d (ways v n) (next_child v n))) in
    ap (together (met v x)) (r ∙ q)
    ∙ joint.assoc x.way (own v n) (together row y)
    ∙ ap (together x.way)
    (sym (joint.assoc (own v n) row y) ∙ ap (λ (z : Unfinished). together z y) (sym (unfinished-inner v d n (h.0.level ∙ e))))

-- ---- how many visits there are

abbrev Counted : View → ℕ → Type 0
Counted v d = (x : Visit) → x.level ≡ d → Each (Fits v) (visits v d x) → length (visits v d x) ≡ length (depth_first v d x.node)

counted-row : (v : View) (d : ℕ) → Counted v d → (xs : List Visit) → Each (λ (x : Visit). x.level ≡ d) xs
    → Each (Fits v) (flat (visits v d) xs) → length (flat (visits v d) xs) ≡ length (flat (depth_first v d) (nodes_of xs))
unfolding flat
counted-row v d ih [] l h = refl
counted-row v d ih (x ∷ xs) l h =
    let u = Each-split (Fits v) (visits v d x) (flat (visits v d) xs) h in
    simp length-append (omega (arith, ih x l.0 u.0, counted-row v d ih xs l.1 u.1))

counted-all : (v : View) (d : ℕ) → Counted v d
unfolding visits depth_first visits_below
counted-all v zero x e h = refl
counted-all v (suc d) x e h =
    let n = x.node in
    ap suc (counted-row v d (counted-all v d) (visits_below v d n) (visits-level v n d (ways v n) (next_child v n)) h.1
    ∙ ap (λ (ns : List ℕ). length (flat (depth_first v d) ns)) (below-nodes v d n (h.0.level ∙ e)))

-- ---- depth first and row by row, from one node

sum-one : {M : Type 0} (m : Monoid M) (g : ℕ → M) (v : View) (d n : ℕ) → sum m g (depth_first v d n) ≡ sum m g (reached_from v d (n ∷ []))
unfolding flat
sum-one m g v d n = ap (sum m g) (sym (append-nil (depth_first v d n))) ∙ sum-depth-first m g v d (n ∷ [])

length-sum : (l : List ℕ) → length l ≡ sum numbers (λ (x : ℕ). 1) l
length-sum [] = refl
length-sum (x ∷ l) = omega (arith, length-sum l)

good-one : (v : View) (d n : ℕ) → Each (Good v) (depth_first v d n) ↔ Deep v d (n ∷ [])
good-one v d n =
    let same = all-sum (node_ok v) (depth_first v d n) ∙ sum-one tests (node_ok v) v d n
    ∙ sym (all-sum (node_ok v) (reached_from v d (n ∷ []))) in (
      λ h. (all-each (node_ok v) _).0 (sym same ∙ (all-each (node_ok v) _).1 h),
      λ h. (all-each (node_ok v) _).0 (same ∙ (all-each (node_ok v) _).1 h),
    )

length-one : (v : View) (d n : ℕ) → length (depth_first v d n) ≡ length (reached_from v d (n ∷ []))
length-one v d n = length-sum (depth_first v d n) ∙ sum-one numbers (λ (x : ℕ). 1) v d n ∙ sym (length-sum (reached_from v d (n ∷ [])))

-- ---- the visits from the root

abbrev root_visits : View → List Visit
root_visits v = visits v (height v) (root_visit v)

-- the root is right, and every reached node in order
pub record InOrder (v : View) : Type 0 where
  pub top : RootFacts v
  pub good : Each (Good v) (reached v)

-- the tests that the walk makes
abbrev pub in_order : View → Bool
in_order v = root_ok v && all (node_ok v) (reached v)

-- a tree passes the test of order exactly if its root is right and each reached node is
pub in-order-iff : (v : View) → (in_order v ≡ true) ↔ InOrder v
in-order-iff v = (
  λ e. let u = (and-iff _ _).0 e in record { top = (root-iff v).0 u.0; good = (all-each (node_ok v) (reached v)).0 u.1 },
  λ o. (and-iff _ _).1 ((root-iff v).1 o.top, (all-each (node_ok v) (reached v)).1 o.good),
)

-- a sound tree is in order
pub sound-in-order : (v : View) → sound_view v ≡ true → InOrder v
sound-in-order v h = let o = sound-orderly v h in record { top = o.top; good = o.good }

-- in a tree in order the root alone is the row of the highest level
pub top-level : (v : View) → InOrder v → Level v (height v) (v.root ∷ [])
top-level v o = level-root v o.top o.good

-- what a node's standing on some level gives holds of each node reached
each-reached : (P : ℕ → Type 0) (v : View) (d : ℕ) (ns : List ℕ) → ((e n : ℕ) → At v e n → P n) → Level v d ns
    → Each P (reached_from v d ns)
unfolding reached_from
each-reached P v zero ns k l = Each-map (At v 0) P ns (k 0) l.row.at
each-reached P v (suc d) ns k l =
    Each-append P ns (reached_from v d (flat (children v) ns)) (Each-map (At v (suc d)) P ns (k (suc d)) l.row.at)
    (each-reached P v d (flat (children v) ns) k (level-lower v d ns l))

-- no node is reached twice, so at most N are
pub in-order-once : (v : View) → InOrder v → distinct (reached v) ≡ true
in-order-once v o = once-follows v o.top o.good

-- in a tree in order at most N nodes are reached
pub in-order-few : (v : View) → InOrder v → length (reached v) ≤ v.nodes
unfolding in_range
in-order-few v o = pigeonhole v.nodes (reached v) (in-order-once v o)
    (each-reached (UpTo v.nodes) v (height v) (v.root ∷ []) (λ e n a. simp decode at a.range) (top-level v o))

each-fits : (v : View) (xs : List Visit) → (all (fits v) xs ≡ true) ↔ Each (Fits v) xs
each-fits v xs = (
  λ h. Each-map (λ (x : Visit). fits v x ≡ true) (Fits v) xs (λ x. (fits-iff v x).0) ((all-each (fits v) xs).0 h),
  λ h. (all-each (fits v) xs).1 (Each-map (Fits v) (λ (x : Visit). fits v x ≡ true) xs (λ x. (fits-iff v x).1) h),
)

visits-in-order : (v : View) → height v ≤ 15 → Each (Fits v) (root_visits v) → InOrder v
visits-in-order v l h =
    let g = (visits-good v (height v) (root_visit v) refl).0 h in
    record {
      top = record { range = g.0.range; level = l; fence = g.0.fence; sibling = g.0.right };
      good = (good-one v (height v) v.root).0 g.1;
    }

in-order-visits : (v : View) → InOrder v → Each (Fits v) (root_visits v)
in-order-visits v o =
    let t = o.top in
    (visits-good v (height v) (root_visit v) refl).1 (
      record { range = t.range; level = refl; fence = t.fence; right = t.sibling; alone = good-alone v v.root (top-level v o).row.good.0 },
      (good-one v (height v) v.root).1 o.good,
    )

visits-count : (v : View) → Each (Fits v) (root_visits v) → length (root_visits v) ≡ length (reached v)
visits-count v h = counted-all v (height v) (root_visit v) refl h ∙ length-one v (height v) v.root

visits-unfinished : (v : View) → Each (Fits v) (root_visits v) → sum joint (met v) (root_visits v) ≡ unfinished v
unfolding unfinished
visits-unfinished v h = met-all v (height v) (root_visit v) refl h ∙ sum-one joint (unfinished_at v) v (height v) v.root

-- ---- the walk

check-outcome : (v : View) → check v (height v) (root_visit v) (tally 0 finished) ≡ outcome v (root_visits v) 0 finished
check-outcome v = check-fold v (height v) (root_visit v) (tally 0 finished) ∙ fold-outcome v (root_visits v) 0 finished (omega arith)

allowed-iff : (v : View) → height v ≤ 15 → allowed v (root_visits v) 0 ≡ in_order v
unfolding allowed
allowed-iff v l =
    same-test _ _ (
      λ h. (in-order-iff v).1 (visits-in-order v l ((each-fits v (root_visits v)).0 (simp and-iff at h).0)),
      λ h. let o = (in-order-iff v).0 h in let f =
          in-order-visits v o in simp decode ((each-fits v (root_visits v)).1 f, omega (arith, visits-count v f, in-order-few v o)),
    )

abbrev pub answer : View → Tally
answer v = cond (in_order v) (tally (length (reached v)) (unfinished v)) None

walk-low : (v : View) → leb (height v) 15 ≡ true → walk v ≡ outcome v (root_visits v) 0 finished
unfolding walk
walk-low v e = rw (e, walk) (check-outcome v)

walk-high : (v : View) → leb (height v) 15 ≡ false → walk v ≡ None
unfolding walk
walk-high v e = rw (e, walk)

outcome-answer : (v : View) → height v ≤ 15 → outcome v (root_visits v) 0 finished ≡ answer v
unfolding outcome
outcome-answer v l = rw (allowed-iff v l) (go (in_order v) refl)
  where
    go : (b : Bool) → in_order v ≡ b
        → cond b (tally (0 + length (root_visits v)) (together finished (sum joint (met v) (root_visits v)))) None
        ≡ cond b (tally (length (reached v)) (unfinished v)) None
    go true e =
        let f = in-order-visits v ((in-order-iff v).0 e) in
        rw (zero-add (length (root_visits v)), visits-count v f, visits-unfinished v f)
    go false e = refl

-- The walk answers the number of nodes reached and what is unfinished in them, if the root is right and each reached node in order; else
-- unsound.
pub walk-answer : (v : View) → walk v ≡ answer v
walk-answer v = go (leb (height v) 15) refl
  where
    go : (b : Bool) → leb (height v) 15 ≡ b → walk v ≡ answer v
    go true e = walk-low v e ∙ outcome-answer v (leb-true (height v) 15 e)
    go false e =
        let high = refuted (in_order v) (λ o. false≢true (sym e ∙ le-leb (height v) 15 ((in-order-iff v).0 o).top.level)) in
        walk-high v e ∙ rw high

-- ---- what a walk that is not refused tells

pub record Passed (v : View) (c : ℕ) (u : Unfinished) : Type 0 where
  pub root-ok : root_ok v ≡ true
  pub nodes-ok : all (node_ok v) (reached v) ≡ true
  pub once : distinct (reached v) ≡ true
  pub unfinished-is : u ≡ unfinished v
  pub count-is : c ≡ length (reached v)
  pub few : c ≤ v.nodes

answer-cases : (b : Bool) (a c : ℕ) (x u : Unfinished) → (cond b (tally a x) None ≡ tally c u) ↔ ((b ≡ true) × ((c ≡ a) × (u ≡ x)))
answer-cases true a c x u = (
  λ e. let z = same_Some _ _ (sym e) in (refl, (ap (λ (y : Visited). y.count) z, ap (λ (y : Visited). y.unfinished) z)),
  λ h. cc,
)
answer-cases false a c x u = (λ e. let z : ◌≡◌ {A = ℕ} 0 1 = cc in absurd (omega arith), λ h. absurd (false≢true h.0))

-- the check gives a count and what is unfinished exactly if root and nodes pass, and these are the tree's
pub walk-iff : (v : View) (c : ℕ) (u : Unfinished) → (walk v ≡ tally c u) ↔ Passed v c u
walk-iff v c u = (
  λ e. let h = (answer-cases (in_order v) (length (reached v)) c (unfinished v) u).0 (sym (walk-answer v) ∙ e) in
      let o = (in-order-iff v).0 h.0 in
      let k = (and-iff (root_ok v) (all (node_ok v) (reached v))).0 h.0 in
      record {
        root-ok = k.0;
        nodes-ok = k.1;
        once = in-order-once v o;
        unfinished-is = h.1.1;
        count-is = h.1.0;
        few = omega (arith, in-order-few v o);
      },
  λ p. walk-answer v ∙ (answer-cases (in_order v) (length (reached v)) c (unfinished v) u).1
      ((and-iff (root_ok v) (all (node_ok v) (reached v))).1 (p.root-ok, p.nodes-ok), (p.count-is, p.unfinished-is)),
)

-- ---- sound

-- what is left to judge after the walk: the recording numbers and the leftover
abbrev pub judged : View → Tally → Bool
judged v None = false
judged v (Some s) = recordings_ok (mapping v) && is_allowed v (leftover_of s.unfinished)

-- a tree is sound exactly if the check passes, its recordings are right and what the check finds unfinished is allowed
pub sound-walk : (v : View) → sound_view v ≡ judged v (walk v)
unfolding sound_view orderly leftover
sound-walk v = go (in_order v) refl
  where
    go : (b : Bool) → in_order v ≡ b → sound_view v ≡ judged v (walk v)
    go true e =
        let k = (and-iff (root_ok v) (all (node_ok v) (reached v))).0 e in
        rw (k.0, k.1, in-order-once v ((in-order-iff v).0 e), walk-answer v, e)
    go false e =
        let refused : sound_view v ≡ false =
        refuted _ (λ h. let u = simp and-iff at h in false≢true
        (sym e ∙ (and-iff (root_ok v) (all (node_ok v) (reached v))).1 (u.0.0, u.0.1.0))) in
        refused ∙ rw (walk-answer v, e)
