-- The unbroken run of full nodes from the leaf upward: which nodes of the path are full, and the first one above that has room.
use Rattle.std.proofs.Common.{◌≡◌, ℕ, zero, suc, ◌+◌, ◌-◌, ◌<◌, ◌≤◌, Bool, true, false, ◌&&◌, List, [], ◌∷◌, length, get_or, sym, refl, ◌∙◌}
use Rattle.std.proofs.Common.{arith, eqb-true}
use mathlib.Core.Bool.{false≢true}
use borrow.Author.Tests.{eqb-false}
use Rattle.model.specs.Table.{Words}
use Rattle.model.specs.Slots.{View, node_view, height, full}
use Rattle.model.specs.Search.{path}
use Rattle.model.specs.SoundTest.{nothing, all}
use Rattle.model.specs.Writes.{run_in, standing_in}
use Rattle.list_laws.proofs.Tools.{all-each}
use Rattle.list_laws.proofs.Members.{each-index, each-at}
use Rattle.tree_laws.proofs.SearchLaw.{path-length}
use Rattle.step_laws.proofs.Views.{reached-usable, shown-few}
use Rattle.step_laws.proofs.Standing.{standing-stands}
use Rattle.step_laws.proofs.TreeAt.{tree_at, Fine, standing_at, run_at}

-- ---- of any list of nodes

abbrev is_full : View → ℕ → Bool
is_full v n = full (v.node n).shown

-- the last m nodes are full, the one before them is not
record Ends (v : View) (ns : List ℕ) (m : ℕ) : Type 0 where
  short : m ≤ length ns
  full : (i : ℕ) → i < length ns → length ns ≤ i + m → is_full v (get_or ns i 0) ≡ true
  stop : (i : ℕ) → suc i + m ≡ length ns → is_full v (get_or ns i 0) ≡ false

first-not : (b c : Bool) → b && c ≡ false → c ≡ true → b ≡ false
first-not true c e h = absurd (false≢true (sym e ∙ h))
first-not false c e h = refl

run-ends : (v : View) (ns : List ℕ) → Ends v ns (run_in v ns)
unfolding run_in
run-ends v [] = record { short = omega arith; full = λ i h g. absurd (omega arith); stop = λ i e. absurd (omega arith) }
run-ends v (n ∷ ns) = go (all (is_full v) (n ∷ ns)) refl (run-ends v ns)
  where
    go : (b : Bool) → all (is_full v) (n ∷ ns) ≡ b → Ends v ns (run_in v ns) → Ends v (n ∷ ns) (run_in v (n ∷ ns))
    go true c ih = rw (c, run_in) (record {
      short = omega arith;
      full = λ i h g. each-at (λ (m : ℕ). is_full v m ≡ true) (n ∷ ns) 0 i h ((all-each (is_full v) (n ∷ ns)).0 c);
      stop = λ i e. absurd (omega arith);
    })
    go false c ih = rw (c, run_in) (record { short = omega (arith, ih.short); full = fulls; stop = stops })
      where
        fulls : (i : ℕ) → i < length (n ∷ ns) → length (n ∷ ns) ≤ i + run_in v ns → is_full v (get_or (n ∷ ns) i 0) ≡ true
        fulls zero h g = absurd (omega (arith, ih.short))
        fulls (suc i) h g = ih.full i (omega arith) (omega arith)

        stops : (i : ℕ) → suc i + run_in v ns ≡ length (n ∷ ns) → is_full v (get_or (n ∷ ns) i 0) ≡ false
        stops zero e = first-not (is_full v n) (all (is_full v) ns) (unfold all in c)
            ((all-each (is_full v) ns).1 (each-index (λ (m : ℕ). is_full v m ≡ true) ns 0 (λ i h. ih.full i h (omega arith))))
        stops (suc i) e = ih.stop i (omega arith)

module _ (w : ℕ) (ns : List ℕ) where
  -- ---- of the path to k

  module _ (t : Words) (s : Fine w ns t nothing) (k : ℕ) where
    ends : Ends (tree_at w t) (path (tree_at w t) k) (run_at w t k)
    ends = run-ends (tree_at w t) (path (tree_at w t) k)

    -- the run has at most one node for each level
    pub run-short : run_at w t k ≤ suc (height (tree_at w t))
    run-short = omega (arith, ends.short, path-length (tree_at w t) k)

    -- each node on the path below the run's end shows 11 slots
    pub run-full : (l : ℕ) → l < run_at w t k → length (node_view t (standing_at w t l k)).shown ≡ 11
    unfolding standing_in full
    run-full l h = eqb-true _ 11
        (ends.full (height (tree_at w t) - l) (omega (arith, path-length (tree_at w t) k))
        (omega (arith, path-length (tree_at w t) k, run-short)))

    -- where the run does not include the root, the node above it has room
    pub run-above : run_at w t k ≤ height (tree_at w t) → length (node_view t (standing_at w t (run_at w t k) k)).shown ≤ 10
    unfolding standing_in full
    run-above h =
        let n = run_at w t k in
        let z = eqb-false (length (node_view t (standing_at w t n k)).shown) 11
        (ends.stop (height (tree_at w t) - n) (omega (arith, path-length (tree_at w t) k))) in
        let f = s in
        let m = shown-few t (standing_at w t n k)
        (reached-usable w t (standing_at w t n k) f.header f.left.orderly (standing-stands w ns t s k n h).reached).clear in
        omega (arith, z, m)
