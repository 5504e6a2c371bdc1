-- What the report of a sound table means: whether it is settled, which collection has the leftover, and how the counts go together.
use Rattle.std.proofs.Common.{◌≡◌, ℕ, suc, ◌+◌, Bool, true, false, cond, eqb, ◌≢◌, ◌⊎◌, ◌↔◌, ◌∷◌, ◌++◌, length, replicate, sym, refl, ap}
use Rattle.std.proofs.Common.{◌∙◌, inl, inr, arith, eq-eqb, ne_eqb}
use mathlib.Core.Bool.{false≢true}
use mathlib.Core.Option.{Option, some}
use Rattle.model.specs.Table.{Words, at, nodes}
use Rattle.model.specs.Slots.{View, view_of, height}
use Rattle.model.specs.Reached.{reached, mapping}
use Rattle.model.specs.SoundTest.{Leftover, nothing, hidden_in, missing_in, both_in, leftover, is_nothing, leftover_all, sound, settled}
use Rattle.model.specs.Writes.{unreachable}
use Rattle.list_laws.proofs.Tools.{same-or-not}
use Rattle.two_laws.proofs.Arrange.{SoundAs, sound-tree, left-all}
use Rattle.two_laws.proofs.CheckTwo.{left-alone, left-beside, count-alone, count-beside, nothing-settled}
use Rattle.two_laws.proofs.CollectionTwo.{unreachable-all}
use Rattle.model.specs.Statistics.{left_words, or_nothing, left_in, tree_words, report, Meant}

-- ---- the words of a leftover, with others after them

-- which is left, and where
kind-iff : (t : Words) (c : ℕ) (x : Leftover) (ws : Words) → (at (left_words t c x ++ ws) 0 ≡ 0) ↔ (is_nothing (some x) ≡ true)
kind-iff t c nothing ws = (λ e. refl, λ e. refl)
kind-iff t c (hidden_in x) ws = (λ e. let z : ◌≡◌ {A = ℕ} 1 0 = e in absurd (omega arith), λ e. absurd (false≢true e))
kind-iff t c (missing_in p a b) ws = (λ e. let z : ◌≡◌ {A = ℕ} 2 0 = e in absurd (omega arith), λ e. absurd (false≢true e))
kind-iff t c (both_in p a) ws = (λ e. let z : ◌≡◌ {A = ℕ} 3 0 = e in absurd (omega arith), λ e. absurd (false≢true e))

collection-is : (t : Words) (c : ℕ) (x : Leftover) (ws : Words) → is_nothing (some x) ≡ false → at (left_words t c x ++ ws) 1 ≡ c
collection-is t c nothing ws e = absurd (false≢true (sym e))
collection-is t c (hidden_in x) ws e = refl
collection-is t c (missing_in p a b) ws e = refl
collection-is t c (both_in p a) ws e = refl

-- the counts after them
module _ (n f a b l : ℕ) (s : Words) where
  abbrev Counts : Words → Type 0
  Counts ws = (at ws 8 ≡ n) × (at ws 9 ≡ f) × (at ws 10 ≡ a) × (at ws 11 ≡ b) × (at ws 13 ≡ at s 0) × (at ws 14 ≡ at s 1)

  counts-are : (t : Words) (c : ℕ) (x : Leftover) → Counts (left_words t c x ++ (n ∷ f ∷ a ∷ b ∷ l ∷ s))
  counts-are t c nothing = (refl, refl, refl, refl, refl, refl)
  counts-are t c (hidden_in x) = (refl, refl, refl, refl, refl, refl)
  counts-are t c (missing_in p q d) = (refl, refl, refl, refl, refl, refl)
  counts-are t c (both_in p q) = (refl, refl, refl, refl, refl, refl)

-- ---- of a sound table

module _ (t : Words) (s : sound t ≡ true) where
  u : SoundAs t
  u = sound-tree t s

  left : leftover_all t ≡ some u.leftover
  left = left-all u.word u.others t u.leftover u.arranged u.tree

  settled-is : is_nothing (some u.leftover) ≡ settled t
  settled-is = nothing-settled t u.leftover s left

  abbrev v₁ : View
  v₁ = view_of 1 t

  abbrev v₂ : View
  v₂ = view_of 2 t

  abbrev second : Words
  second = cond (eqb (at t 3) 0) (replicate 3 0) (tree_words v₂)

  abbrev rest : Words
  rest = nodes t ∷ length (unreachable t) ∷ length (reached v₁) ∷ length (mapping v₁) ∷ suc (height v₁) ∷ second

  report-form : report t ≡ left_words t (left_in t) u.leftover ++ rest
  unfolding report tree_words
  report-form = ap (λ (o : Option Leftover). left_words t (left_in t) (or_nothing o) ++ rest) left

  word : (k : ℕ) → at (report t) k ≡ at (left_words t (left_in t) u.leftover ++ rest) k
  word k = ap (λ (ws : Words). at ws k) report-form

  counts : Counts (nodes t) (length (unreachable t)) (length (reached v₁)) (length (mapping v₁)) (suc (height v₁)) second
      (left_words t (left_in t) u.leftover ++ rest)
  counts = counts-are _ _ _ _ _ second t (left_in t) u.leftover

  none-second : at t 3 ≡ 0 → at second 0 ≡ 0
  none-second z = rw (eq-eqb (at t 3) 0 z)

  in-second : at t 3 ≢ 0 → (at second 0 ≡ length (reached v₂)) × (at second 1 ≡ length (mapping v₂))
  unfolding tree_words
  in-second z = rw (ne_eqb (at t 3) 0 z) (refl, refl)

  nodes-are : (at t 3 ≡ 0) ⊎ (at t 3 ≢ 0) → at (report t) 9 + (at (report t) 10 + at (report t) 13) ≡ at (report t) 8
  nodes-are (inl z) = omega
      (arith, word 8, word 9, word 10, word 13, counts.0, counts.1, counts.2, counts.4, none-second z, count-alone t z, unreachable-all t s)
  nodes-are (inr z) = omega (
    arith,
    word 8,
    word 9,
    word 10,
    word 13,
    counts.0,
    counts.1,
    counts.2,
    counts.4,
    (in-second z).0,
    count-beside t z,
    unreachable-all t s,
  )

  -- the collection that has the leftover
  one : is_nothing (leftover v₁) ≡ false → left_in t ≡ 1
  unfolding left_in
  one e = rw e

  two : is_nothing (leftover v₁) ≡ true → left_in t ≡ 2
  unfolding left_in
  two e = rw e

  has-left : (at t 3 ≡ 0) ⊎ (at t 3 ≢ 0) → (b : Bool) → is_nothing (leftover v₁) ≡ b → is_nothing (leftover_all t) ≡ false
      → leftover (view_of (left_in t) t) ≡ leftover_all t
  has-left (inl z) true e q = absurd (false≢true (sym q ∙ ap is_nothing (left-alone t z) ∙ e))
  has-left (inl z) false e q = ap (λ (n : ℕ). leftover (view_of n t)) (one e) ∙ sym (left-alone t z)
  has-left (inr z) true e q = ap (λ (n : ℕ). leftover (view_of n t)) (two e) ∙ sym (left-beside t z ∙ rw e)
  has-left (inr z) false e q = ap (λ (n : ℕ). leftover (view_of n t)) (one e) ∙ sym (left-beside t z ∙ rw e)

  pub report-means : Meant t
  report-means =
      record {
        settled-iff = (
          λ e. sym settled-is ∙ (kind-iff t (left_in t) u.leftover rest).0 (sym (word 0) ∙ e),
          λ e. word 0 ∙ (kind-iff t (left_in t) u.leftover rest).1 (settled-is ∙ e),
        );
        left-in = λ e.
            let q = settled-is ∙ e in
            ap (λ (n : ℕ). leftover (view_of n t)) (word 1 ∙ collection-is t (left_in t) u.leftover rest q)
            ∙ has-left (same-or-not (at t 3) 0) (is_nothing (leftover v₁)) refl (ap is_nothing left ∙ q);
        all-nodes = nodes-are (same-or-not (at t 3) 0);
        codes-one = word 11 ∙ counts.3;
        codes-two = λ z. word 14 ∙ counts.5 ∙ (in-second z).1;
      }
