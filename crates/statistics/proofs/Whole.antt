-- The report of a sound table from its parts, and what the check answers.
use Rattle.std.proofs.Common.{◌≡◌, ℕ, ◌+◌, ◌-◌, ◌≤◌, true, ◌≢◌, ◌∷◌, ◌++◌, length, sym, ap, ◌∙◌, arith}
use mathlib.Core.Option.{Option}
use Rattle.std.specs.Prelude as rust
use Rattle.std.specs.Prelude.{Some, None, Ok, Err, ok_or}
use Rattle.model.specs.declared.Refusal.{Refusal}
use Rattle.model.specs.declared.Refusal.TheVariants.{NotSound}
use Rattle.model.specs.Results.{Outcome, refused_with}
use Rattle.model.specs.Table.{Words, at, nodes, header_number}
use Rattle.model.specs.Slots.{view_from, view_of}
use Rattle.model.specs.Reached.{reached, reached_all}
use Rattle.model.specs.SoundTest as model
use Rattle.model.specs.SoundTest.{leftover_all, sound}
use Rattle.model.specs.Writes.{unreachable}
use Rattle.model.proofs.Numbers.{refused-by}
use Rattle.table_laws.proofs.Header.{header-number-iff, header-number-refused}
use Rattle.two_laws.proofs.SearchTwo.{sound-head}
use Rattle.sound.specs.declared.Leftover.{Leftover}
use Rattle.sound.specs.declared.Sound.{Sound}
use Rattle.sound.specs.Checked.{meant, found, checked}
use Rattle.sound.proofs.JudgeLaws.{checked-unsound}
use Rattle.model.specs.Statistics.{check_number, checking, left_words, or_nothing, left_in, tree_words, report, report_out}
use Rattle.statistics.proofs.Trees.{whole, first-few, second_words}

-- ---- the report

module _ (t : Words) (x : Leftover) (c : ℕ) (h : checked t ≡ found x c) where
  pub is-counted : (sound t ≡ true) × (c ≡ length (reached_all t))
  is-counted = let w = whole t x c h in (w.is-sound, w.reached-are)

  module _ (n : ℕ) (e : n ≡ length (reached (view_of 1 t))) where
    pub not-more : n ≤ c
    not-more = let w = whole t x c h in omega (arith, e, w.reached-are, first-few t w.is-sound)

    pub the-others : (sound t ≡ true) × (length (reached (view_of 1 t)) + (c - n) ≡ length (reached_all t))
    the-others = let w = whole t x c h in (w.is-sound, omega (arith, e, w.reached-are, not-more))

  pub report-is : (l one two : Words) (i n f r : ℕ) → l ≡ left_words t i (meant x) → i ≡ left_in t → n ≡ at t 2 → f ≡ length (unreachable t)
      → r ≡ at t 1 → one ≡ tree_words (view_from t r) → two ≡ second_words t → l ++ (n ∷ f ∷ (one ++ two)) ≡ report t
  unfolding report
  report-is l one two i n f r a b p q e o s =
      let rest : ℕ → ℕ → Words → Words → Words = λ m g y z. m ∷ g ∷ (y ++ z) in
      ap (λ (ws : Words). ws ++ rest n f one two) (a ∙ ap (λ (k : ℕ). left_words t k (meant x)) b
      ∙ ap (λ (k : Option model.Leftover). left_words t (left_in t) (or_nothing k)) (sym (whole t x c h).leftover-is))
      ∙ ap (λ (ws : Words). left_words t (left_in t) (or_nothing (leftover_all t)) ++ ws)
      (ap (λ (m : ℕ). rest m f one two) p ∙ ap (λ (g : ℕ). rest (nodes t) g one two) q
      ∙ ap (λ (y : Words). rest (nodes t) (length (unreachable t)) y two) (o ∙ ap (λ (k : ℕ). tree_words (view_from t k)) e)
      ∙ ap (rest (nodes t) (length (unreachable t)) (tree_words (view_of 1 t))) s)

-- ---- the answer, and the lent words

module _ (t lent : Words) where
  abbrev Answers : Outcome → Words → Type 0
  Answers o out = (o ≡ checking t) × (out ≡ report_out t lent)

  pub no-table : header_number t ≢ 0 → Answers (refused_with (header_number t)) lent
  unfolding check_number checking report_out header_number
  no-table z = let q = header-number-refused t z in (rw q, rw q)

  module _ {k : rust.Option Sound} (q : k ≡ checked t) where
    pub not-sound : {e : Refusal} → header_number t ≡ 0 → ok_or k NotSound ≡ Err e → Answers (Err e) lent
    unfolding check_number checking report_out
    not-sound {e} z h =
        let none : k ≡ None = grind arith in
        let same : NotSound ≡ e = grind arith in
        let a = (header-number-iff t).0 z in
        let b = (checked-unsound t).0 (sym q ∙ none) in (ap Err (sym same) ∙ sym (refused-by NotSound) ∙ rw (a, b), rw (a, b))

    pub was-found : {s : Sound} → ok_or k NotSound ≡ Ok s → checked t ≡ Some s
    was-found {s} h = let some : k ≡ Some s = grind arith in sym q ∙ some

  pub is-sound : (x : Leftover) (c : ℕ) → checked t ≡ found x c → (ws : Words) → ws ≡ report t → Answers (Ok tt) ws
  unfolding check_number checking report_out
  is-sound x c h ws q =
      let b = (whole t x c h).is-sound in
      let a = sound-head t b in (rw (a, b), rw (a, b) q)
