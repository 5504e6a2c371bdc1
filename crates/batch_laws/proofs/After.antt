-- What an accepted insertion leaves: a settled table with the collection, the pair entered in its map, and more nodes reached.
use Rattle.std.proofs.Common.{◌≡◌, ℕ, ◌<◌, ◌≤◌, true, false, ◌||◌, eqb, ◌↔◌, length, refl, ap, ◌∙◌, inl, le-ltb, lt-ltb}
use mathlib.Core.Option.{some}
use lib.Seq.{take-length}
use Rattle.model.specs.Table.{Words, at, root_word, no_collection}
use Rattle.model.specs.Slots.{pointer_of}
use Rattle.model.specs.Reached.{map_of}
use Rattle.model.specs.SoundTest.{nothing, leftover_all, sound, settled}
use Rattle.model.specs.Orders.{apply}
use Rattle.model.specs.Writes.{insert_stores, insertion, stores_of}
use Rattle.model.specs.Refusals.{has_recording, words_for, refusal}
use Rattle.model.specs.Ledger.{enter}
use Rattle.list_laws.proofs.Recordings.{enter-recording, recording-iff, recording-of}
use Rattle.table_laws.proofs.Collections.{by-number}
use Rattle.two_laws.proofs.Arrange.{left-all, settled-tree}
use Rattle.two_laws.proofs.CallsTwo.{OwnSteps, arranged, insert-two}
use Rattle.two_laws.proofs.AcceptedTwo.{there, Accepted, accepted-iff}
use Rattle.two_laws.proofs.SameTwo.{first-there, second-there}
use Rattle.two_laws.proofs.JudgedTwo.{number-on-sound}

-- a settled table has nothing to repair
pub settled-nothing : (t : Words) → settled t ≡ true → leftover_all t ≡ some nothing
settled-nothing t s = let a = arranged 1 t (inl refl) in left-all 1 a.0 t nothing a.1 (settled-tree 1 a.0 t a.1 s)

-- ---- an accepted insertion

module _ (n k r c words dock : ℕ) (t : Words) (ok : refusal (insertion n k r c) words dock t ≡ 0) where
  abbrev t₁ : Words
  t₁ = apply (stores_of (insertion n k r c) t) t

  passes : Accepted (insertion n k r c) words dock t
  passes = (accepted-iff (insertion n k r c) words dock t).0 ok

  steps : OwnSteps 1121 (root_word n) t (insert_stores n t k (pointer_of r c)) (enter k (pointer_of r c) (map_of n t))
  steps = insert-two n t passes.sound (there n t passes.collection).1 k r c passes.allows

  pub after-settled : settled (apply (stores_of (insertion n k r c) t) t) ≡ true
  unfolding stores_of
  after-settled = steps.settles

  -- after an accepted insertion nothing is left over in the table
  pub after-nothing : leftover_all (apply (stores_of (insertion n k r c) t) t) ≡ some nothing
  after-nothing = settled-nothing t₁ after-settled

  -- the collection is still there after an accepted insertion
  pub after-collection : no_collection n (apply (stores_of (insertion n k r c) t) t) ≡ false
  unfolding stores_of
  after-collection =
      let l : (at t₁ 3 ≡ 0) ↔ (at t 3 ≡ 0) = rw take-length at (steps.part-lack (length (insert_stores n t k (pointer_of r c)))) in
      by-number t (λ (n : ℕ). no_collection n t₁ ≡ false) (first-there t₁) (λ z. second-there t₁ (λ y. z (l.0 y))) n passes.collection

  pub after-map : map_of n (apply (stores_of (insertion n k r c) t) t) ≡ enter k (pointer_of r c) (map_of n t)
  unfolding stores_of
  after-map = steps.maps

  -- the recordings are those before it and its own
  pub after-recordings :
      (q : ℕ) → has_recording q (map_of n (apply (stores_of (insertion n k r c) t) t)) ≡ (eqb r q || has_recording q (map_of n t))
  after-recordings q =
      ap (has_recording q) after-map ∙ enter-recording q k (pointer_of r c) (map_of n t)
      ∙ ap (λ (p : ℕ). eqb p q || has_recording q (map_of n t)) (recording-of r c ((recording-iff r).0 passes.allows.recording-ok).1)

-- ---- a list that is too short, on a sound table with the collection, for a dock that there is

-- on a sound table that has the collection, an order list too short for its dock refuses an insertion with 5
pub five : (n k r c words dock : ℕ) (t : Words) → sound t ≡ true → no_collection n t ≡ false → dock ≤ 1 → words < words_for dock
    → refusal (insertion n k r c) words dock t ≡ 5
five n k r c words dock t s h d l =
    number-on-sound (insertion n k r c) words dock t s h ∙ rw (le-ltb 1 dock d, lt-ltb words (words_for dock) l)
