-- The tests of an insertion from 6 on, one by one.
use Rattle.std.proofs.Common.{◌≡◌, ℕ, Bool, true, false, ◌&&◌, eqb, length, sym, ap, ◌∙◌}
use Rattle.model.specs.Table.{Words, at, root_word}
use Rattle.model.specs.Slots.{recording_ok, class_ok, View, view_from, height}
use Rattle.model.specs.Reached.{mapping, map_of}
use Rattle.model.specs.SoundTest.{sound_view}
use Rattle.model.specs.Writes.{unreachable, insertion}
use Rattle.model.specs.Refusals.{first_number, has_key, has_recording, map_tests}
use Rattle.node.specs.Word.{word_of}
use Rattle.node.proofs.WordLaws.{word-level}
use Rattle.reach.specs.declared.Run.{Run}
use Rattle.leaves.specs.declared.Hit.{Hit}
use Rattle.std.specs.Prelude.{Option, is_some}
use Rattle.leaves.specs.Hits.{hit_in}
use Rattle.leaves.proofs.FoundLaws.{found-recording}
use Rattle.insert.specs.Tests.{high_run, few_for, number_for}

-- ---- 8

pub recording-hit : (v : View) (r : ℕ) (h : Option Hit) → sound_view v ≡ true → h ≡ hit_in v r → is_some h ≡ has_recording r (mapping v)
recording-hit v r h s e = ap is_some e ∙ found-recording v r s

-- where it is known, by the root that was read
known-here : (n : ℕ) (t : Words) (root : ℕ) → root ≡ at t (root_word n) → (known : Bool) (r : ℕ) → known ≡ has_recording r (map_of n t)
    → has_recording r (mapping (view_from t root)) ≡ known
known-here n t root e known r q = ap (λ (x : ℕ). has_recording r (mapping (view_from t x))) e ∙ sym q

pub found-here : (n : ℕ) (t : Words) (root : ℕ) → root ≡ at t (root_word n) → (known : Bool) (r : ℕ) → known
    ≡ has_recording r (mapping (view_from t root)) → known ≡ has_recording r (map_of n t)
found-here n t root e known r q = q ∙ ap (λ (x : ℕ). has_recording r (mapping (view_from t x))) e

-- ---- 11

pub root-level : (t : Words) (o : ℕ) (run : Run) (w : ℕ) → run.root ≡ true → w ≡ word_of t o 2 → eqb w 15 ≡ high_run (view_from t o) run
root-level t o run w e q = ap (λ (l : ℕ). eqb l 15) (q ∙ word-level t o) ∙ sym (ap (λ (b : Bool). b && eqb (height (view_from t o)) 15) e)

-- ---- the first that holds

-- all of them, by the root that was read
number-first : (n : ℕ) (t : Words) (k r c : ℕ) (run : Run) (root : ℕ) → root ≡ at t (root_word n)
    → number_for n t k r c run
    ≡ first_number (map_tests (insertion n k r c) (high_run (view_from t root) run) (few_for (length (unreachable t)) run)
    (mapping (view_from t root)))
unfolding number_for
number-first n t k r c run root e = rw e

module _ (n : ℕ) (t : Words) (k r c : ℕ) (run : Run) {root : ℕ} (e : root ≡ at t (root_word n)) {a : Bool} (qa : a ≡ recording_ok r) where
  pub bad-recording : a ≡ false → 6 ≡ number_for n t k r c run
  bad-recording h = sym (number-first n t k r c run root e ∙ rw (sym qa ∙ h))

  module _ (ha : a ≡ true) {b : Bool} (qb : b ≡ class_ok c) where
    pub bad-class : b ≡ false → 14 ≡ number_for n t k r c run
    bad-class h = sym (number-first n t k r c run root e ∙ rw (sym qa ∙ ha, sym qb ∙ h))

    module _ (hb : b ≡ true) {d : Bool} (qd : d ≡ has_key k (mapping (view_from t root))) where
      pub key-present : d ≡ true → 7 ≡ number_for n t k r c run
      key-present h = sym (number-first n t k r c run root e ∙ rw (sym qa ∙ ha, sym qb ∙ hb, sym qd ∙ h))

      module _ (hd : d ≡ false) {known : Bool} (qk : known ≡ has_recording r (map_of n t)) where
        knows : {b : Bool} → known ≡ b → has_recording r (mapping (view_from t root)) ≡ b
        knows h = known-here n t root e known r qk ∙ h

        pub recording-present : known ≡ true → 8 ≡ number_for n t k r c run
        recording-present h = sym (number-first n t k r c run root e ∙ rw (sym qa ∙ ha, sym qb ∙ hb, sym qd ∙ hd, knows h))

        module _ (hk : known ≡ false) {f : Bool} (qf : f ≡ high_run (view_from t root) run) where
          pub too-high : f ≡ true → 11 ≡ number_for n t k r c run
          too-high h = sym (number-first n t k r c run root e ∙ rw (sym qa ∙ ha, sym qb ∙ hb, sym qd ∙ hd, knows hk, sym qf ∙ h))

          module _ (hf : f ≡ false) {free : ℕ} (qu : free ≡ length (unreachable t)) {g : Bool} (qg : g ≡ few_for free run) where
            few : {b : Bool} → g ≡ b → few_for (length (unreachable t)) run ≡ b
            few h = ap (λ (x : ℕ). few_for x run) (sym qu) ∙ sym qg ∙ h

            pub no-nodes : g ≡ true → 10 ≡ number_for n t k r c run
            no-nodes h = sym (number-first n t k r c run root e ∙ rw (sym qa ∙ ha, sym qb ∙ hb, sym qd ∙ hd, knows hk, sym qf ∙ hf, few h))

            pub none-holds : g ≡ false → 0 ≡ number_for n t k r c run
            none-holds h = sym (number-first n t k r c run root e
                ∙ rw (sym qa ∙ ha, sym qb ∙ hb, sym qd ∙ hd, knows hk, sym qf ∙ hf, few h))
