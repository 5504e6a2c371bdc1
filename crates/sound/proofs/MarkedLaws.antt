-- Where the reached nodes are marked, the leaves among the marked nodes, by their numbers, have the pairs of the map in another order:
-- every
-- sum over them is the map's, and so are both tests of the recordings.
use Rattle.std.proofs.Common.{◌≡◌, ℕ, zero, suc, ◌+◌, ◌<◌, ◌≤◌, Bool, true, false, cond, ◌&&◌, ◌||◌, eqb, ◌≢◌, ◌↔◌, List, [], ◌∷◌, map}
use Rattle.std.proofs.Common.{replicate, sym, refl, ap, ◌∙◌, arith, eq-eqb, ne_eqb, eqb-true}
use mathlib.Core.Bool.{false≢true}
use mathlib.Core.Option.{some}
use borrow.Author.Tests.{eqb-false}
use Rattle.std.specs.Prelude.{Option, Some}
use Rattle.model.specs.declared.Unfinished.{Unfinished}
use Rattle.model.specs.declared.Visited.{Visited}
use Rattle.model.specs.Table.{Words, root, header_ok}
use Rattle.model.specs.Slots.{Slot, recording, View, view_from, view, height}
use Rattle.model.specs.Search.{below}
use Rattle.model.specs.Reached.{flat, kept, children, reached_from, leaves_from, reached, mapping}
use Rattle.model.specs.SoundTest.{all, elem, distinct, pair_ok, recordings_ok, Leftover, nothing, hidden_in, missing_in, both_in}
use Rattle.model.specs.SoundTest.{unfinished, leftover_of, leftover}
use Rattle.model.specs.Writes.{numbers}
use Rattle.list_laws.proofs.Tools.{same-test, Each, Each-append, Each-map}
use Rattle.list_laws.proofs.Members.{mem-each, each-elem}
use Rattle.list_laws.proofs.Counts.{numbers-each}
use Rattle.tree_laws.proofs.Leftovers.{Left, leftover-iff}
use Rattle.list_laws.proofs.Distinct.{distinct-cons, UpTo}
use Rattle.tree_laws.proofs.Rows.{At, range-iff}
use Rattle.tree_laws.proofs.Levels.{Level, level-lower}
use Rattle.walk_laws.specs.Walk.{walk}
use Rattle.walk_laws.proofs.Sums as sums
use Rattle.walk_laws.proofs.Sums.{Monoid, sum, tests, unit-right, sum-append, sum-flat, sum-both, all-sum}
use Rattle.walk_laws.proofs.WalkLaw.{InOrder, top-level, in-order-once, walk-iff}
use Rattle.bits.specs.Bits.{has}
use Rattle.bits.proofs.Marks.{none-marked}
use Rattle.recordings.specs.declared.Marks.{Marks}
use Rattle.recordings.specs.Marked.{is_one, own, marked_pairs}
use Rattle.sound.specs.Visited.{Adds}
use Rattle.sound.specs.Checked.{uncut_in}
use Rattle.sound.proofs.MarkLaws.{seen-order}

-- ---- sums over a row of numbers

module _ {M : Type 0} (m : Monoid M) where
  -- x, if the test passes
  abbrev taken : Bool → M → M
  taken b x = cond b x m.unit

  sum-same {ℓ} : {A : Type ℓ} (g h : A → M) (xs : List A) → Each (λ (x : A). g x ≡ h x) xs → sum m g xs ≡ sum m h xs
  sum-same g h [] e = refl
  sum-same g h (x ∷ xs) e = ap (λ (y : M). m.op y (sum m g xs)) e.0 ∙ ap (m.op (h x)) (sum-same g h xs e.1)

  sum-like {ℓ} : {A : Type ℓ} (g h : A → M) (xs : List A) → ((x : A) → g x ≡ h x) → sum m g xs ≡ sum m h xs
  sum-like g h xs e = sum-same g h xs (mem-each (λ x. g x ≡ h x) xs (λ x k. e x))

  sum-unit : (g : ℕ → M) (xs : List ℕ) → Each (λ (x : ℕ). g x ≡ m.unit) xs → sum m g xs ≡ m.unit
  sum-unit g [] e = refl
  sum-unit g (x ∷ xs) e = ap (λ (y : M). m.op y (sum m g xs)) e.0 ∙ m.unit-left (sum m g xs) ∙ sum-unit g xs e.1

  -- of the numbers from a on, only l counts
  one-past : (g : ℕ → M) (l a n : ℕ) → l < a → sum m (λ (x : ℕ). taken (eqb x l) (g x)) (numbers a n) ≡ m.unit
  unfolding numbers
  one-past g l a zero h = refl
  one-past g l a (suc n) h =
      ap (λ (b : Bool). m.op (taken b (g a)) (sum m (λ (x : ℕ). taken (eqb x l) (g x)) (numbers (suc a) n))) (ne_eqb a l (λ e. omega arith))
      ∙ m.unit-left _ ∙ one-past g l (suc a) n (omega arith)

  one-there : (g : ℕ → M) (l a n : ℕ) → a ≤ l → l < a + n → sum m (λ (x : ℕ). taken (eqb x l) (g x)) (numbers a n) ≡ g l
  unfolding numbers
  one-there g l a zero h u = absurd (omega arith)
  one-there g l a (suc n) h u = go (eqb a l) refl (one-there g l (suc a) n)
    where
      rest : M
      rest = sum m (λ (x : ℕ). taken (eqb x l) (g x)) (numbers (suc a) n)

      go : (b : Bool) → eqb a l ≡ b → (suc a ≤ l → l < suc a + n → rest ≡ g l) → m.op (taken (eqb a l) (g a)) rest ≡ g l
      go true c ih =
          ap (λ (b : Bool). m.op (taken b (g a)) rest) c ∙ ap (m.op (g a)) (one-past g l (suc a) n (omega (arith, eqb-true a l c)))
          ∙ unit-right m (g a) ∙ ap g (eqb-true a l c)
      go false c ih = ap (λ (b : Bool). m.op (taken b (g a)) rest) c ∙ m.unit-left rest ∙ ih (omega (arith, eqb-false a l c)) (omega arith)

  apart : (l : ℕ) (ls : List ℕ) (x : ℕ) (y : M) → elem l ls ≡ false → taken (elem x (l ∷ ls)) y
      ≡ m.op (taken (eqb x l) y) (taken (elem x ls) y)
  unfolding elem
  apart l ls x y e = go (eqb x l) refl
    where
      go : (b : Bool) → eqb x l ≡ b → taken (eqb x l || elem x ls) y ≡ m.op (taken (eqb x l) y) (taken (elem x ls) y)
      go true c =
          let off : elem x ls ≡ false = ap (λ (z : ℕ). elem z ls) (eqb-true x l c) ∙ e in
          rw (c, off) (sym (unit-right m y))
      go false c = rw c (sym (m.unit-left (taken (elem x ls) y)))

  -- numbers from 1 to n, each once, and summed in their order
  in-order : (g : ℕ → M) (n : ℕ) (ls : List ℕ) → distinct ls ≡ true → Each (UpTo n) ls
      → sum m (λ (x : ℕ). taken (elem x ls) (g x)) (numbers 1 n) ≡ sum m g ls
  unfolding elem
  in-order g n [] d r = go (numbers 1 n)
    where
      go : (xs : List ℕ) → sum m (λ (x : ℕ). taken (elem x []) (g x)) xs ≡ m.unit
      go [] = refl
      go (x ∷ xs) = m.unit-left (sum m (λ (x : ℕ). taken (elem x []) (g x)) xs) ∙ go xs
  in-order g n (l ∷ ls) d r =
      let u = (distinct-cons l ls).0 d in
      let here : ℕ → M = λ (x : ℕ). taken (eqb x l) (g x) in
      let rest : ℕ → M = λ (x : ℕ). taken (elem x ls) (g x) in
      sum-like (λ (x : ℕ). taken (elem x (l ∷ ls)) (g x)) (λ (x : ℕ). m.op (here x) (rest x)) (numbers 1 n) (λ x. apart l ls x (g x) u.0)
      ∙ sum-both m here rest (numbers 1 n)
      ∙ ap (λ (y : M). m.op y (sum m rest (numbers 1 n))) (one-there g l 1 n r.0.0 (omega (arith, r.0.1)))
      ∙ ap (m.op (g l)) (in-order g n ls u.1 r.1)

-- ---- the leaves among the reached nodes

-- they are numbers from 1 to N
in-range : (v : View) (d : ℕ) (ns : List ℕ) → Level v d ns → Each (UpTo v.nodes) (reached_from v d ns)
unfolding reached_from
in-range v zero ns l = Each-map (At v 0) (UpTo v.nodes) ns (λ n a. (range-iff v.nodes n).0 a.range) l.row.at
in-range v (suc d) ns l =
    Each-append (UpTo v.nodes) ns (reached_from v d (flat (children v) ns))
    (Each-map (At v (suc d)) (UpTo v.nodes) ns (λ n a. (range-iff v.nodes n).0 a.range) l.row.at)
    (in-range v d (flat (children v) ns) (level-lower v d ns l))

module _ {M : Type 0} (m : Monoid M) (g : Slot → M) (v : View) where
  -- what a node adds: a leaf its kept slots
  abbrev of_leaf : ℕ → M
  of_leaf n = taken m (eqb (v.node n).level 0) (sum m g (kept v n))

  leaves-sum : (d : ℕ) (ns : List ℕ) → Level v d ns → sum m of_leaf (reached_from v d ns) ≡ sum m g (flat (kept v) (leaves_from v d ns))
  unfolding reached_from leaves_from
  leaves-sum zero ns l =
      sum-same m of_leaf (λ (n : ℕ). sum m g (kept v n)) ns
      (Each-map (At v 0) (λ (n : ℕ). of_leaf n ≡ sum m g (kept v n)) ns
      (λ n a. ap (λ (b : Bool). taken m b (sum m g (kept v n))) (eq-eqb (v.node n).level 0 a.level)) l.row.at)
      ∙ sym (sum-flat m g (kept v) ns)
  leaves-sum (suc d) ns l =
      let lower = reached_from v d (flat (children v) ns) in
      let none : sum m of_leaf ns ≡ m.unit = sum-unit m of_leaf ns
      (Each-map (At v (suc d)) (λ (n : ℕ). of_leaf n ≡ m.unit) ns
      (λ n a. ap (λ (b : Bool). taken m b (sum m g (kept v n))) (ne_eqb (v.node n).level 0 (λ z. omega (arith, a.level)))) l.row.at) in
      sum-append m of_leaf ns lower ∙ ap (λ (y : M). m.op y (sum m of_leaf lower)) none ∙ m.unit-left (sum m of_leaf lower)
      ∙ leaves-sum d (flat (children v) ns) (level-lower v d ns l)

  -- The marks are those of the reached nodes, and every one of these but the uncut one keeps all that it shows.
  module _ (marks : Marks) (marked : (n : ℕ) → n ≤ v.nodes → has marks.bits n ≡ elem n (reached v))
      (keeps : (n : ℕ) → elem n (reached v) ≡ true → is_one marks.uncut n ≡ false → kept v n ≡ (v.node n).shown) where
    chosen : (n : ℕ) → elem n (reached v) ≡ true → cond (is_one marks.uncut n) (kept v n) (v.node n).shown ≡ kept v n
    chosen n e = go (is_one marks.uncut n) refl
      where
        go : (b : Bool) → is_one marks.uncut n ≡ b → cond b (kept v n) (v.node n).shown ≡ kept v n
        go true c = refl
        go false c = sym (keeps n e c)

    own-sum : (n : ℕ) → n ≤ v.nodes → sum m g (own v marks n) ≡ taken m (elem n (reached v)) (of_leaf n)
    unfolding own
    own-sum n l = go (has marks.bits n) (eqb (v.node n).level 0) refl
      where
        go : (a b : Bool) → has marks.bits n ≡ a → sum m g (cond (a && b) (cond (is_one marks.uncut n) (kept v n) (v.node n).shown) [])
            ≡ taken m (elem n (reached v)) (taken m b (sum m g (kept v n)))
        go true true c =
            let e : elem n (reached v) ≡ true = sym (marked n l) ∙ c in
            ap (sum m g) (chosen n e) ∙ sym (ap (λ (x : Bool). taken m x (sum m g (kept v n))) e)
        go true false c = sym (ap (λ (x : Bool). taken m x m.unit) (sym (marked n l) ∙ c))
        go false b c = sym (ap (λ (x : Bool). taken m x (taken m b (sum m g (kept v n)))) (sym (marked n l) ∙ c))

    pub marked-sum : InOrder v → sum m g (marked_pairs v marks) ≡ sum m g (mapping v)
    unfolding marked_pairs mapping
    marked-sum o =
        sum-flat m g (own v marks) (numbers 1 v.nodes)
        ∙ sum-same m (λ (n : ℕ). sum m g (own v marks n)) (λ (n : ℕ). taken m (elem n (reached v)) (of_leaf n)) (numbers 1 v.nodes)
        (Each-map (λ (n : ℕ). (1 ≤ n) × (n < 1 + v.nodes))
        (λ (n : ℕ). sum m g (own v marks n) ≡ taken m (elem n (reached v)) (of_leaf n)) (numbers 1 v.nodes)
        (λ n h. let b = h.1 in own-sum n (omega arith)) (numbers-each 1 v.nodes))
        ∙ in-order m of_leaf v.nodes (reached v) (in-order-once v o) (in-range v (height v) (v.root ∷ []) (top-level v o))
        ∙ leaves-sum (height v) (v.root ∷ []) (top-level v o)

-- ---- both tests are sums

-- how often a recording number is there
abbrev one_if : Bool → ℕ
one_if b = cond b 1 0

abbrev times : ℕ → List Slot → ℕ
times x ss = sum sums.numbers (λ (s : Slot). one_if (eqb x (recording s))) ss

times-none : (x : ℕ) (ss : List Slot) → (elem x (map recording ss) ≡ false) ↔ (times x ss ≡ 0)
unfolding elem
times-none x [] = (λ e. refl, λ e. refl)
times-none x (s ∷ ss) = go (eqb x (recording s)) (times-none x ss)
  where
    go : (b : Bool) → (elem x (map recording ss) ≡ false) ↔ (times x ss ≡ 0)
        → ((b || elem x (map recording ss)) ≡ false) ↔ (one_if b + times x ss ≡ 0)
    go true i = (λ e. absurd (false≢true (sym e)), λ e. absurd (omega arith))
    go false i = (λ e. let z = i.0 e in omega arith, λ e. i.1 (omega arith))

-- no number is there twice
distinct-times : (ss : List Slot) → (distinct (map recording ss) ≡ true) ↔ ((x : ℕ) → times x ss ≤ 1)
unfolding distinct
distinct-times [] = (λ e x. omega arith, λ h. refl)
distinct-times (s ∷ ss) =
    (λ d. there ((distinct-cons (recording s) (map recording ss)).0 d) (distinct-times ss).0, back (distinct-times ss).1)
  where
    there : (elem (recording s) (map recording ss) ≡ false) × (distinct (map recording ss) ≡ true)
        → (distinct (map recording ss) ≡ true → (x : ℕ) → times x ss ≤ 1) → (x : ℕ) → times x (s ∷ ss) ≤ 1
    there u ih x = go (eqb x (recording s)) refl
      where
        go : (b : Bool) → eqb x (recording s) ≡ b → one_if b + times x ss ≤ 1
        go true c = omega (arith, (times-none x ss).0 (ap (λ (y : ℕ). elem y (map recording ss)) (eqb-true x (recording s) c) ∙ u.0))
        go false c = omega (arith, ih u.1 x)

    back : (((x : ℕ) → times x ss ≤ 1) → distinct (map recording ss) ≡ true) → ((x : ℕ) → times x (s ∷ ss) ≤ 1)
        → distinct (recording s ∷ map recording ss) ≡ true
    back ih h =
        let here : one_if (eqb (recording s) (recording s)) ≡ 1 = ap one_if (eq-eqb (recording s) (recording s) refl) in
        (distinct-cons (recording s) (map recording ss)).1
        ((times-none (recording s) ss).1 (omega (arith, here, h (recording s))), ih (λ x. omega (arith, h x)))

distinct-same : (ss us : List Slot) → ((x : ℕ) → times x ss ≡ times x us) → distinct (map recording ss) ≡ distinct (map recording us)
distinct-same ss us e =
    same-test _ _ (
      λ d. (distinct-times us).1 (λ x. omega (arith, e x, (distinct-times ss).0 d x)),
      λ d. (distinct-times ss).1 (λ x. omega (arith, e x, (distinct-times us).0 d x)),
    )

-- ---- the marks that a walk made, and the node that is cut

-- where this is left, every reached node but the uncut one keeps all that it shows
left-keeps : (v : View) (x : Leftover) → Left v x → (n : ℕ) → elem n (reached v) ≡ true → is_one (uncut_in x) n ≡ false
    → kept v n ≡ (v.node n).shown
left-keeps v nothing h n e z = each-elem (λ (i : ℕ). kept v i ≡ (v.node i).shown) n (reached v) e h.1
left-keeps v (hidden_in y) h n e z = each-elem (λ (i : ℕ). kept v i ≡ (v.node i).shown) n (reached v) e h.1
left-keeps v (missing_in p a false) h n e z = each-elem (λ (i : ℕ). kept v i ≡ (v.node i).shown) n (reached v) e h.1
left-keeps v (missing_in p a true) h n e z =
    each-elem (λ (i : ℕ). i ≢ a → kept v i ≡ (v.node i).shown) n (reached v) e h.1.others (λ y. eqb-false a n z (sym y))
left-keeps v (both_in p a) h n e z = each-elem (λ (i : ℕ). kept v i ≡ (v.node i).shown) n (reached v) e h.1

left-is : (v : View) (u : Unfinished) (x : Leftover) → u ≡ unfinished v → leftover_of u ≡ some x → leftover v ≡ some x
unfolding leftover
left-is v u x e l = ap leftover_of (sym e) ∙ l

-- as the check meets it

any-marked : (t : Words) (r q : ℕ) (marks : Marks) → marked_pairs (view_from t r) marks ≡ marked_pairs (view_from t q) marks
unfolding marked_pairs own kept below
any-marked t r q marks = refl

module _ (v : View) (marks : Marks) (marked : (n : ℕ) → n ≤ v.nodes → has marks.bits n ≡ elem n (reached v))
    (keeps : (n : ℕ) → elem n (reached v) ≡ true → is_one marks.uncut n ≡ false → kept v n ≡ (v.node n).shown) (o : InOrder v) where
  -- The recordings of the leaves among the nodes that a walk marked are right exactly if the map's are.
  pub marked-right : recordings_ok (marked_pairs v marks) ≡ recordings_ok (mapping v)
  unfolding recordings_ok
  marked-right =
      let ranges : all pair_ok (marked_pairs v marks) ≡ all pair_ok (mapping v) =
      all-sum pair_ok (marked_pairs v marks) ∙ marked-sum tests pair_ok v marks marked keeps o ∙ sym (all-sum pair_ok (mapping v)) in
      let once : distinct (map recording (marked_pairs v marks)) ≡ distinct (map recording (mapping v)) =
      distinct-same (marked_pairs v marks) (mapping v)
      (λ x. marked-sum sums.numbers (λ (s : Slot). one_if (eqb x (recording s))) v marks marked keeps o) in
      ap (λ (b : Bool). b && distinct (map recording (marked_pairs v marks))) ranges ∙ ap (λ (b : Bool). all pair_ok (mapping v) && b) once

-- a walk was not refused, and marked what it reached: the marked leaves tell of the map
pub walk-right : (t : Words) (r n : ℕ) (s : Visited) (marks : Marks) (x : Leftover) → header_ok t ≡ true → Some s ≡ walk (view_from t r)
    → Adds (reached (view_from t r)) (replicate n 0) marks.bits → leftover_of s.unfinished ≡ some x → marks.uncut ≡ uncut_in x
    → (b : Bool) → b ≡ recordings_ok (marked_pairs (view t) marks) → b ≡ recordings_ok (mapping (view_from t r))
walk-right t r n s marks x hd e a l w b g =
    let v = view_from t r in
    let o = seen-order v (Some s) e tt in
    let p = (walk-iff v s.count s.unfinished).0 (sym e) in
    let is-left = left-is v s.unfinished x p.unfinished-is l in
    let marked : (i : ℕ) → i ≤ v.nodes → has marks.bits i ≡ elem i (reached v) =
    λ i k. a i ∙ ap (λ (z : Bool). z || elem i (reached v)) (none-marked n i) in
    let keeps : (i : ℕ) → elem i (reached v) ≡ true → is_one marks.uncut i ≡ false → kept v i ≡ (v.node i).shown = λ i k z.
    left-keeps v x ((leftover-iff v p.once x).0 is-left) i k (sym (ap (λ (u : Option ℕ). is_one u i) w) ∙ z) in
    g ∙ ap recordings_ok (any-marked t (root t) r marks) ∙ marked-right v marks marked keeps o
