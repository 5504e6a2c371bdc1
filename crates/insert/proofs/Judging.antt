-- The run counted on a sound table is that of the table as repair would leave it, and the refusal found is the call's.
use Rattle.std.proofs.Common.{◌≡◌, ℕ, ◌+◌, ◌≤◌, true, false, cond, eqb, length, sym, refl, ap, ◌∙◌}
use mathlib.Core.List.{Memᴰ}
use mathlib.Core.Option.{Option, some}
use Rattle.std.specs.Prelude.{Option as Known, Some}
use Rattle.std.specs.Option.{option_eq}
use Rattle.model.specs.Results.{Outcome, passed}
use Rattle.model.specs.Table.{Words, at, root_word, no_collection}
use Rattle.model.specs.Slots.{node_view, view_from, view_of, full}
use Rattle.model.specs.Search.{path}
use Rattle.model.specs.Reached.{kept, reached}
use Rattle.model.specs.SoundTest.{Leftover, nothing, hidden_in, missing_in, both_in, leftover_all, sound}
use Rattle.model.specs.Writes.{repaired, insertion}
use Rattle.model.specs.Refusals.{too_high, too_few, words_for, refusal}
use Rattle.list_laws.proofs.Tools.{eqb-sym, Each-map}
use Rattle.tree_laws.proofs.SearchLaw.{path-reached}
use Rattle.step_laws.proofs.RepairedView.{lacking_in}
use Rattle.two_laws.proofs.AcceptedTwo.{there}
use Rattle.two_laws.proofs.CollectionTwo.{collection-orderly}
use Rattle.two_laws.proofs.RepairedTwo.{repaired-later}
use Rattle.two_laws.proofs.JudgedTwo.{unreachable-later, lacking-all, full-later}
use Rattle.reach.specs.declared.Run.{Run}
use Rattle.reach.specs.Runs.{full_in, full_run}
use Rattle.reach.proofs.Running.{run-of}
use Rattle.sound.specs.declared.Leftover as said
use Rattle.sound.specs.declared.Sound.{Sound}
use Rattle.sound.specs.Checked.{meant}
use Rattle.write.proofs.Judging.{Passed, ready-number}
use Rattle.insert.specs.Tests.{parent_of, run_of, number_for}
use Rattle.insert.specs.Entered.{Found}

-- the one slot more is that of the parent that lacks one
lacking-is : (y : Leftover) (n : ℕ) → cond (option_eq eqb (parent_of y) (Some n)) 1 0 ≡ lacking_in (some y) n
lacking-is nothing n = refl
lacking-is (hidden_in x) n = refl
lacking-is (missing_in p a trailing) n = rw (eqb-sym p n)
lacking-is (both_in p a) n = rw (eqb-sym p n)

-- the leftover of the whole table tells, whichever tree has it
pub run-judged : (n : ℕ) (t : Words) (y : Leftover) (k : ℕ) → sound t ≡ true → no_collection n t ≡ false → leftover_all t ≡ some y
    → full_run (view_of n t) k (parent_of y) ≡ run_of n (repaired t) k
run-judged n t y k s h e =
    let v = view_of n t in
    let i = (there n t h).1 in
    let o = collection-orderly n t s h in
    let judged : (m : ℕ) → Memᴰ m (reached v) → full_in v (parent_of y) m ≡ full (node_view (repaired t) m).shown =
    λ m j. unfold full_in in
    ap (λ (x : ℕ). eqb (length (kept v m) + x) 11)
    (lacking-is y m ∙ ap (λ (z : Option Leftover). lacking_in z m) (sym e) ∙ sym (lacking-all n t m s i j))
    ∙ sym (full-later n t s i k m j) in
    run-of v n (repaired t) k (parent_of y) ((repaired-later t (root_word n) s i).path k)
    (Each-map (λ (m : ℕ). Memᴰ m (reached v)) (λ (m : ℕ). full_in v (parent_of y) m ≡ full (node_view (repaired t) m).shown) (path v k)
    judged (path-reached v k o))

-- a sound table, with what is known of it
pub handed : (o k r c : ℕ) {words dock : ℕ} {t : Words} {x : Sound} → Found t x → no_collection o t ≡ false → dock ≤ 1
    → words_for dock ≤ words
    → Passed (insertion o k r c) words dock t x.leftover x.reached
handed o k r c f h d w = record { found = f; collection = h; dock-ok = d; long = w }

module _ {o k r c words dock : ℕ} {t : Words} {x : said.Leftover} {n : ℕ} (p : Passed (insertion o k r c) words dock t x n) where
  -- the run found with the parent that lacks a slot is the run in the repaired table
  pub run-later : {left : Known ℕ} {root : ℕ} {run : Run} → left ≡ parent_of (meant x) → root ≡ at t (root_word o) → run
      ≡ full_run (view_from t root) k left
      → run ≡ run_of o (repaired t) k
  run-later {left} b f e =
      e ∙ ap (λ (z : ℕ). full_run (view_from t z) k left) f ∙ ap (full_run (view_of o t) k) b
      ∙ run-judged o t (meant x) k p.found.is-sound p.collection p.found.leftover-is

  number-is : number_for o t k r c (run_of o (repaired t) k) ≡ refusal (insertion o k r c) words dock t
  unfolding number_for too_high too_few
  number-is =
      let s = p.found.is-sound in
      let v = repaired-later t (root_word o) s (there o t p.collection).1 in
      sym (ready-number (insertion o k r c) words dock t p ∙ rw (v.height, unreachable-later t s))

  -- the insertion's answer by the tests of that run is the refusal of the insertion
  pub insert-number : {run : Run} {m : Outcome} → run ≡ run_of o (repaired t) k → m ≡ passed (number_for o t k r c run)
      → passed (refusal (insertion o k r c) words dock t) ≡ m
  insert-number e q = sym (q ∙ ap (λ (u : Run). passed (number_for o t k r c u)) e ∙ ap passed number-is)
