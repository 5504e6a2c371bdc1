-- The running count over a list is its longest end all of whose elements pass; and the run of full nodes.
use Rattle.std.proofs.Common.{◌≡◌, ℕ, zero, suc, ◌+◌, ◌-◌, ◌<◌, ◌≤◌, Bool, true, false, cond, ◌&&◌, eqb, List, [], ◌∷◌, length, sym, refl}
use Rattle.std.proofs.Common.{ap, ◌∙◌, add-zero, add-one, arith, eq-eqb, eqb-true}
use mathlib.Core.List.{Memᴰ}
use Rattle.std.specs.Prelude.{Option, Some, None}
use Rattle.std.specs.Option.{option_eq}
use Rattle.model.specs.Table.{Words, root}
use Rattle.model.specs.Slots.{Slot, View, node_view, view_from, view_of, view, height, full}
use Rattle.model.specs.Search.{below, moved, down, path_from, path}
use Rattle.model.specs.Reached.{kept, reached}
use Rattle.model.specs.SoundTest.{all, settled_view}
use Rattle.model.specs.Writes.{run_in, run, root_in_run}
use Rattle.view_laws.proofs.AnyRoot.{any-path}
use Rattle.list_laws.proofs.Tools.{Each, Each-map, same-test, all-same}
use Rattle.tree_laws.proofs.SearchLaw.{path-length, path-reached}
use Rattle.tree_laws.proofs.Leftovers.{settled-iff, settled-node}
use Rattle.node.specs.Word.{word_of}
use Rattle.node.proofs.WordLaws.{word-level}
use Rattle.reach.specs.Runs.{full_in, end_run, run_after, run_from, full_run}

-- ---- any list, any test

module _ (p : ℕ → Bool) where
  end-all : (n : ℕ) (ns : List ℕ) → all p (n ∷ ns) ≡ true → end_run p (n ∷ ns) ≡ suc (length ns)
  unfolding end_run
  end-all n ns e = rw (e, end_run)

  end-not : (n : ℕ) (ns : List ℕ) → all p (n ∷ ns) ≡ false → end_run p (n ∷ ns) ≡ end_run p ns
  unfolding end_run
  end-not n ns e = rw (e, end_run)

  -- where all pass, that is the whole list
  end-whole : (ns : List ℕ) → all p ns ≡ true → end_run p ns ≡ length ns
  end-whole [] e = unfold end_run in refl
  end-whole (n ∷ ns) e = end-all n ns e

  -- the running count from a count on: it goes on counting where all pass, and otherwise counts the longest end
  run-on : (count : ℕ) (ns : List ℕ) → run_from p count ns ≡ cond (all p ns) (count + length ns) (end_run p ns)
  unfolding run_from all
  run-on count [] = omega arith
  run-on count (n ∷ ns) = go (p n) (all p ns) refl refl (run-on (run_after p count n) ns)
    where
      go : (a b : Bool) → p n ≡ a → all p ns ≡ b → run_from p (run_after p count n) ns
          ≡ cond (all p ns) (run_after p count n + length ns) (end_run p ns)
          → run_from p (run_after p count n) ns ≡ cond (p n && all p ns) (count + suc (length ns)) (end_run p (n ∷ ns))
      go true true c d ih = ih ∙ rw (c, d) (omega arith)
      go true false c d ih = ih ∙ rw (c, d) (sym (end-not n ns (rw (c, d))))
      go false true c d ih = let w = end-not n ns (rw c) ∙ end-whole ns d in ih ∙ rw (c, d) (omega arith)
      go false false c d ih = ih ∙ rw (c, d) (sym (end-not n ns (rw c)))

  -- the running count from the top is the longest end
  pub run-end : (ns : List ℕ) → run_from p 0 ns ≡ end_run p ns
  run-end ns = run-on 0 ns ∙ go (all p ns) refl
    where
      go : (b : Bool) → all p ns ≡ b → cond b (0 + length ns) (end_run p ns) ≡ end_run p ns
      go true e = let w = end-whole ns e in omega arith
      go false e = refl

-- tests that agree on the elements have the same longest end
pub end-same : (p q : ℕ → Bool) (ns : List ℕ) → Each (λ (n : ℕ). p n ≡ q n) ns → end_run p ns ≡ end_run q ns
end-same p q [] h = unfold end_run in refl
end-same p q (n ∷ ns) h = go (all q (n ∷ ns)) refl (all-same p q (n ∷ ns) h) (end-same p q ns h.1)
  where
    go : (b : Bool) → all q (n ∷ ns) ≡ b → all p (n ∷ ns) ≡ all q (n ∷ ns) → end_run p ns ≡ end_run q ns
        → end_run p (n ∷ ns) ≡ end_run q (n ∷ ns)
    go true e w ih = end-all p n ns (w ∙ e) ∙ sym (end-all q n ns e)
    go false e w ih = end-not p n ns (w ∙ e) ∙ ih ∙ sym (end-not q n ns e)

-- the model's run is the longest end of full nodes
pub run-in : (v : View) (ns : List ℕ) → run_in v ns ≡ end_run (λ (m : ℕ). full (v.node m).shown) ns
unfolding run_in end_run
run-in v [] = refl
run-in v (n ∷ ns) = ap
    (λ (x : ℕ). elim (all (λ (m : ℕ). full (v.node m).shown) (n ∷ ns)) as (λ c. ℕ) [ true ↦ suc (length ns) | false ↦ x ]) (run-in v ns)

-- ---- the run, going down a path

module _ (v : View) (parent : Option ℕ) (n k : ℕ) (e : k ≡ length (kept v n)) where
  pub full-pending : option_eq eqb parent (Some n) ≡ true → eqb k 10 ≡ full_in v parent n
  unfolding full_in
  full-pending q =
      rw (q, ← e) (same-test (eqb k 10) (eqb (k + 1) 11)
      (λ b. eq-eqb (k + 1) 11 (omega (arith, eqb-true k 10 b)), λ b. eq-eqb k 10 (omega (arith, eqb-true (k + 1) 11 b))))

  pub full-other : option_eq eqb parent (Some n) ≡ false → eqb k 11 ≡ full_in v parent n
  unfolding full_in
  full-other q = rw (q, ← e, add-zero)

-- the count is at most one more
pub after-most : (p : ℕ → Bool) (count n : ℕ) → run_after p count n ≤ count + 1
after-most p count n = go (p n)
  where
    go : (b : Bool) → cond b (count + 1) 0 ≤ count + 1
    go true = omega arith
    go false = omega arith

-- one level of a descent for k that comes to n on level l and stands on m, in the rest form: what is left counts as the whole does
module _ (p : ℕ → Bool) (v : View) (n k m count r : ℕ) (e : m ≡ moved v n k) (q : r ≡ run_after p count m) where
  -- above the leaves, the count goes on from the child and comes to that of the whole path
  pub run-lower : (l c : ℕ) → 0 < l → c ≡ down v m k → run_from p r (path_from v (l - 1) c k) ≡ run_from p count (path_from v l n k)
  unfolding path_from run_from
  run-lower zero c h d = absurd (omega arith)
  run-lower (suc l) c h d = let o : suc l - 1 ≡ l = omega arith in rw (o, q, d, e)

  -- on level 0 the count after the leaf is that of the whole path
  pub run-last : (l : ℕ) → l ≤ 0 → r ≡ run_from p count (path_from v l n k)
  unfolding path_from run_from
  run-last zero h = rw (q, e)
  run-last (suc l) h = absurd (omega arith)

-- the whole path from a root
pub run-top : (t : Words) (r k : ℕ) (parent : Option ℕ) (top : ℕ) → top ≡ word_of t r 2
    → run_from (full_in (view t) parent) 0 (path_from (view t) top r k) ≡ end_run (full_in (view_from t r) parent) (path (view_from t r) k)
unfolding full_in kept below
run-top t r k parent top e =
    rw (e ∙ word-level t r)
    (ap (run_from (full_in (view t) parent) 0) (any-path t (root t) r (node_view t r).level r k)
    ∙ run-end (full_in (view_from t r) parent) (path (view_from t r) k))

pub run-read : (t : Words) (r k : ℕ) (parent : Option ℕ) (top len : ℕ) → top ≡ word_of t r 2 → len
    ≡ end_run (full_in (view_from t r) parent) (path (view_from t r) k)
    → record { length = len; root = eqb len (top + 1) } ≡ full_run (view_from t r) k parent
unfolding full_run
run-read t r k parent top len e q = rw (add-one top, e ∙ word-level t r, q)

-- ---- the run of the model

-- u has the run that was counted in a view where both have the same path, and each of its nodes is full in u as it was judged there
pub run-of : (v : View) (n : ℕ) (u : Words) (k : ℕ) (parent : Option ℕ) → path (view_of n u) k ≡ path v k
    → Each (λ (m : ℕ). full_in v parent m ≡ full (node_view u m).shown) (path v k)
    → full_run v k parent ≡ record { length = run n u k; root = root_in_run n u k }
unfolding full_run root_in_run
run-of v n u k parent e h =
    let o = view_of n u in
    let w : end_run (full_in v parent) (path v k) ≡ run_in o (path o k) =
    end-same (full_in v parent) (λ (m : ℕ). full (node_view u m).shown) (path v k) h ∙ sym (run-in o (path v k)) ∙ ap (run_in o) (sym e) in
    let g : height v ≡ height o = omega (arith, path-length v k, path-length o k, ap length e) in
    rw (w, g)

full-kept : (v : View) (n : ℕ) → kept v n ≡ (v.node n).shown → eqb (length (kept v n)) 11 ≡ full (v.node n).shown
unfolding full
full-kept v n e = ap (λ (ss : List Slot). eqb (length ss) 11) e

-- in a settled tree no node is to get a slot
pub run-settled : (n : ℕ) (t : Words) (k : ℕ) → settled_view (view_of n t) ≡ true → full_run (view_of n t) k None
    ≡ record { length = run n t k; root = root_in_run n t k }
run-settled n t k h =
    let v = view_of n t in
    let s = (settled-iff v).0 h in
    let judged : (m : ℕ) → Memᴰ m (reached v) → full_in v None m ≡ full (v.node m).shown =
    λ m i. sym (full-other v None m _ refl refl) ∙ full-kept v m (settled-node v m s i).keeps in
    run-of v n t k None refl
    (Each-map (λ (m : ℕ). Memᴰ m (reached v)) (λ (m : ℕ). full_in v None m ≡ full (v.node m).shown) (path v k) judged
    (path-reached v k s.orderly))
