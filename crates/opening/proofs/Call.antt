-- The call: its refusals, one by one, and the summary that it leaves.
use Rattle.std.proofs.Common.{◌≡◌, ℕ, ◌-◌, ◌*◌, ◌<◌, ◌≤◌, true, false, ◌≢◌, ◌++◌, length, take, drop, replicate, sym, ap, ◌∙◌, arith}
use Rattle.std.proofs.Common.{eq-eqb, ne_eqb}
use lib.ListN.{length-replicate}
use Rattle.std.specs.Prelude as rust
use Rattle.std.specs.Prelude.{None, Ok, Err, ok_or}
use Rattle.std.proofs.lemmas.List.{take-replicate, drop-replicate}
use Rattle.std.proofs.Math.Option.{some}
use Rattle.model.specs.declared.Refusal.{Refusal}
use Rattle.model.specs.declared.Refusal.TheVariants.{NotSound}
use Rattle.model.specs.Results.{Outcome, refused_with}
use Rattle.model.specs.Table.{Words, nodes, header_ok, header_number}
use Rattle.model.specs.Reached.{reached_all}
use Rattle.model.specs.SoundTest.{is_nothing, settled}
use Rattle.model.specs.Marks.{put_each}
use Rattle.model.specs.Cells.{entered_all}
use Rattle.model.specs.Summary.{mark_words, cell_words, summary_words, recordings_in, opened, open_number, opening, opened_words}
use Rattle.model.proofs.Numbers.{refused-by}
use Rattle.table_laws.proofs.Header.{header-iff, header-number-refused, nodes-few}
use Rattle.two_laws.proofs.CheckTwo.{nothing-settled}
use Rattle.two_laws.proofs.CollectionTwo.{settled-head}
use Rattle.sound.specs.declared.Leftover.{Leftover}
use Rattle.sound.specs.declared.Sound.{Sound}
use Rattle.sound.specs.Checked.{meant, SoundWith, checked}
use Rattle.sound.proofs.JudgeLaws.{checked-unsound}

-- ---- the slice

pub some-nodes : (t : Words) → settled t ≡ true → 1 ≤ nodes t
some-nodes t s = ((header-iff t).0 (settled-head t s)).size.some

pub words-few : (t : Words) (n : ℕ) → header_ok t ≡ true → n ≡ nodes t → n ≤ 65535
words-few t n h e = omega (arith, nodes-few t h, e)

-- marks in its first w words, cells in the others
module _ (t : Words) (n : ℕ) (f : Words) (w : ℕ) (l : n ≡ summary_words (nodes t)) (z : f ≡ replicate n 0)
    (q : w ≡ mark_words (nodes t)) where
  abbrev N : ℕ
  N = nodes t

  first-words : take w f ≡ replicate (mark_words N) 0
  first-words = let h : mark_words N ≤ n = omega arith in rw (z, q) (take-replicate {X = ℕ} (mark_words N) n 0 h)

  others : drop w f ≡ replicate (cell_words N) 0
  others = let h : n - w ≡ cell_words N = omega arith in ap (drop w) z ∙ drop-replicate {X = ℕ} w n 0 ∙ ap (λ (k : ℕ). replicate k 0) h

  pub some-cells : 1 ≤ N → (cells : Words) → cells ≡ drop w f → 0 < length cells
  unfolding cell_words
  some-cells h cells e = omega (arith, ap length (e ∙ others), length-replicate {A = ℕ} (16 * N) 0)

  pub is-written : (marks cells ms cs : Words) → marks ≡ take w f → cells ≡ drop w f → ms ≡ put_each (reached_all t) marks → cs
      ≡ entered_all cells (recordings_in t) → ms ++ cs ≡ opened t
  unfolding opened
  is-written marks cells ms cs e c i j =
      ap (λ (ws : Words). ws ++ cs) (i ∙ ap (put_each (reached_all t)) (e ∙ first-words))
      ∙ ap (λ (ws : Words). put_each (reached_all t) (replicate (mark_words N) 0) ++ ws)
      (j ∙ ap (λ (ds : Words). entered_all ds (recordings_in t)) (c ∙ others))

-- ---- the answer, and the slice after it

module _ (t ws : Words) where
  abbrev pub Answers : Outcome → Words → Type 0
  Answers o after = (o ≡ opening (length ws) t) × (after ≡ opened_words ws t)

  pub no-table : header_number t ≢ 0 → Answers (refused_with (header_number t)) ws
  unfolding open_number opening opened_words header_number
  no-table z = let q = header-number-refused t z in (rw q, rw q)

  module _ (h : header_ok t ≡ true) where
    pub other-length : length ws ≢ summary_words (nodes t) → Answers (refused_with 26) ws
    unfolding open_number opening opened_words
    other-length z = let q = ne_eqb (length ws) (summary_words (nodes t)) z in (rw (h, q), rw (h, q))

    module _ (l : length ws ≡ summary_words (nodes t)) where
      pub not-sound : {k : rust.Option Sound} {e : Refusal} → k ≡ checked t → ok_or k NotSound ≡ Err e → Answers (Err e) ws
      unfolding open_number opening opened_words
      not-sound {k} {e} c o =
          let none : k ≡ None = grind arith in
          let same : NotSound ≡ e = grind arith in
          let z = (checked-unsound t).0 (sym c ∙ none) in
          let q = eq-eqb (length ws) (summary_words (nodes t)) l in
          (ap Err (sym same) ∙ sym (refused-by NotSound) ∙ rw (h, q, z), rw (h, q, z))

      module _ (x : Leftover) (n : ℕ) (found : SoundWith t x n) where
        is-settled : is_nothing (some (meant x)) ≡ settled t
        is-settled = nothing-settled t (meant x) found.is-sound found.leftover-is

        pub not-settled : is_nothing (some (meant x)) ≡ false → Answers (refused_with 20) ws
        unfolding open_number opening opened_words
        not-settled z =
            let q = eq-eqb (length ws) (summary_words (nodes t)) l in
            let s : settled t ≡ false = sym is-settled ∙ z in (rw (h, q, found.is-sound, s), rw (h, q, found.is-sound, s))

        pub now-settled : is_nothing (some (meant x)) ≡ true → settled t ≡ true
        now-settled z = sym is-settled ∙ z

        pub is-opened : settled t ≡ true → (after : Words) → after ≡ opened t → Answers (Ok tt) after
        unfolding open_number opening opened_words
        is-opened s after e =
            let q = eq-eqb (length ws) (summary_words (nodes t)) l in (rw (h, q, found.is-sound, s), rw (h, q, found.is-sound, s) e)
