-- The tests of a quick insertion from 6 on, one by one, by a way along which every test passed.
use Rattle.std.proofs.Common.{◌≡◌, ℕ, suc, ◌+◌, ◌-◌, ◌<◌, ◌≤◌, Bool, true, false, cond, ◌&&◌, eqb, ltb, leb, ◌⊎◌, List, [], ◌∷◌, length}
use Rattle.std.proofs.Common.{get_or, sym, ap, ◌∙◌, inl, inr, arith, ltb-true, leb-true}
use Rattle.model.specs.Table.{Words, nodes}
use Rattle.model.specs.Slots.{RECORDINGS, View, node_view, view_of, full, recording_ok, class_ok, pointer_of}
use Rattle.model.specs.Search.{path}
use Rattle.model.specs.SoundTest.{all}
use Rattle.model.specs.Writes.{numbers, run_in, run, root_in_run, insertion}
use Rattle.model.specs.Refusals.{first_number, has_key, too_high}
use Rattle.model.specs.Cells.{holds}
use Rattle.model.specs.Summary.{cell_of, key_there, unmarked, too_few_in, own_tests}
use Rattle.list_laws.proofs.Tools.{and-iff}
use Rattle.table_laws.proofs.Header.{LengthFacts, header-iff}
use Rattle.tree_laws.proofs.SearchLaw.{path-length}
use Rattle.two_laws.proofs.AcceptedTwo.{there}
use Rattle.way.specs.declared.Way.{Way}
use Rattle.way.specs.Ways.{Along}
use Rattle.way.proofs.Walking.{along-height, along-run, along-on}

run-short : (v : View) (ns : List ℕ) → run_in v ns ≤ length ns
unfolding run_in
run-short v [] = omega arith
run-short v (n ∷ ns) = go (all (λ (m : ℕ). full (v.node m).shown) (n ∷ ns)) (run-short v ns)
  where
    go : (b : Bool) → run_in v ns ≤ length ns → elim b as (λ b. ℕ) [ true ↦ length (n ∷ ns) | false ↦ run_in v ns ] ≤ length (n ∷ ns)
    go true ih = omega arith
    go false ih = omega (arith, ih)

-- a cell's number is one, and no free cell
pub recording-low : (r : ℕ) → recording_ok r ≡ true → (0 < r) × (r < RECORDINGS)
unfolding recording_ok
recording-low r e = let u = (and-iff (leb 1 r) _).0 e in (leb-true 1 r u.0, ltb-true r RECORDINGS u.1)

pub cell-some : (r n p : ℕ) → p ≡ pointer_of r n → recording_ok r ≡ true → 0 < p
unfolding pointer_of
cell-some r n p e h = omega (arith, e, (recording-low r h).0)

module _ {n : ℕ} {ms t : Words} {k : ℕ} {w : Way} (a : Along n ms t k w) where
  pub along-size : LengthFacts (length t) (nodes t)
  along-size = ((header-iff t).0 a.header).size

  pub number-few : (1 ≤ n) × (n ≤ 2)
  number-few = go (there n t a.collection).0
    where
      go : (n ≡ 1) ⊎ (n ≡ 2) → (1 ≤ n) × (n ≤ 2)
      go (inl e) = (omega arith, omega arith)
      go (inr e) = (omega arith, omega arith)

  pub along-few : w.run ≤ suc w.height
  along-few = omega (arith, along-run a, along-height a, run-short (view_of n t) (path (view_of n t) k), path-length (view_of n t) k)

  pub whole-is : eqb w.run (suc w.height) ≡ root_in_run n t k
  unfolding root_in_run
  whole-is = ap (λ (x : ℕ). eqb x (suc w.height)) (along-run a) ∙ ap (λ (h : ℕ). eqb (run n t k) (suc h)) (along-height a)

  high-is : (eqb w.run (suc w.height) && eqb w.height 15) ≡ too_high n t k
  unfolding too_high
  high-is = ap (λ (b : Bool). b && eqb w.height 15) whole-is ∙ ap (λ (h : ℕ). root_in_run n t k && eqb h 15) (along-height a)

  few-is : ltb (length (unmarked ms (numbers 1 (nodes t)))) (w.run + cond (eqb w.run (suc w.height)) 1 0) ≡ too_few_in n ms t k
  unfolding too_few_in
  few-is =
      let free = length (unmarked ms (numbers 1 (nodes t))) in
      ap (λ (b : Bool). ltb free (w.run + cond b 1 0)) whole-is ∙ ap (λ (x : ℕ). ltb free (x + cond (root_in_run n t k) 1 0)) (along-run a)

  module _ (r c : ℕ) (cs : Words) where
    abbrev number : ℕ
    number = first_number (own_tests (insertion n k r c) ms cs t)

    module _ {q6 : Bool} (e6 : q6 ≡ recording_ok r) where
      pub bad-recording : q6 ≡ false → 6 ≡ first_number (own_tests (insertion n k r c) ms cs t)
      bad-recording h = rw (sym e6 ∙ h)

      module _ (h6 : q6 ≡ true) {q14 : Bool} (e14 : q14 ≡ class_ok c) where
        pub bad-class : q14 ≡ false → 14 ≡ first_number (own_tests (insertion n k r c) ms cs t)
        bad-class h = rw (sym e6 ∙ h6, sym e14 ∙ h)

        module _ (h14 : q14 ≡ true) {x : ℕ} (ex : x ≡ get_or w.nodes (w.height - 0) 0) {q7 : Bool}
            (e7 : q7 ≡ has_key k (node_view t x).shown) where
          key-is : key_there n t k ≡ q7
          key-is = sym (e7 ∙ ap (λ (m : ℕ). has_key k (node_view t m).shown) (along-on a 0 x ex))

          pub key-present : q7 ≡ true → 7 ≡ first_number (own_tests (insertion n k r c) ms cs t)
          key-present h = rw (sym e6 ∙ h6, sym e14 ∙ h14, key-is ∙ h)

          module _ (h7 : q7 ≡ false) {p : ℕ} (ep : p ≡ pointer_of r n) {q8 : Bool} (e8 : q8 ≡ holds cs p) where
            held-is : holds cs (cell_of n r) ≡ q8
            held-is = sym (e8 ∙ ap (holds cs) ep)

            pub recording-present : q8 ≡ true → 8 ≡ first_number (own_tests (insertion n k r c) ms cs t)
            recording-present h = rw (sym e6 ∙ h6, sym e14 ∙ h14, key-is ∙ h7, held-is ∙ h)

            module _ (h8 : q8 ≡ false) {q11 : Bool} (e11 : q11 ≡ (eqb w.run (suc w.height) && eqb w.height 15)) where
              pub too-high : q11 ≡ true → 11 ≡ first_number (own_tests (insertion n k r c) ms cs t)
              too-high h = rw (sym e6 ∙ h6, sym e14 ∙ h14, key-is ∙ h7, held-is ∙ h8, sym (e11 ∙ high-is) ∙ h)

              module _ (h11 : q11 ≡ false) {m : ℕ} (em : m ≡ w.run + cond (eqb w.run (suc w.height)) 1 0) {q10 : Bool}
                  (e10 : q10 ≡ ltb (length (unmarked ms (numbers 1 (nodes t)))) m) where
                free-is : too_few_in n ms t k ≡ q10
                free-is = sym (e10 ∙ ap (ltb (length (unmarked ms (numbers 1 (nodes t))))) em ∙ few-is)

                pub no-nodes : q10 ≡ true → 10 ≡ first_number (own_tests (insertion n k r c) ms cs t)
                no-nodes h = rw (sym e6 ∙ h6, sym e14 ∙ h14, key-is ∙ h7, held-is ∙ h8, sym (e11 ∙ high-is) ∙ h11, free-is ∙ h)

                pub all-pass : q10 ≡ false → 0 ≡ first_number (own_tests (insertion n k r c) ms cs t)
                all-pass h = rw (sym e6 ∙ h6, sym e14 ∙ h14, key-is ∙ h7, held-is ∙ h8, sym (e11 ∙ high-is) ∙ h11, free-is ∙ h)
