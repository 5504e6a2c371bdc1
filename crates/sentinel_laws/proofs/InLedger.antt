-- The number of a call that takes sentinels is the ledger's, which knows their length and the table's.
use Rattle.std.proofs.Common.{◌≡◌, ℕ, ◌*◌, Bool, true, false, not, eqb, ◌≢◌, [], ◌∷◌, sym, refl, ◌∙◌, arith, eqb-true}
use borrow.Author.Tests.{eqb-false}
use Rattle.model.specs.Table.{Words, nodes, header_ok}
use Rattle.model.specs.SoundTest.{sound}
use Rattle.model.specs.Reached.{maps_of}
use Rattle.model.specs.Writes.{Call}
use Rattle.model.specs.Refusals.{test, first_number, seventeen_in, refusal, unless_refused}
use Rattle.model.specs.Ledger.{fed_of, ledger_refusal}
use Rattle.model.specs.Sentinels.{slice_number, refusal_with}
use Rattle.two_laws.proofs.SearchTwo.{sound-head}
use Rattle.two_laws.proofs.LedgerTwo.{seventeen-same, number-in-ledger}
use Rattle.two_laws.proofs.TwelveTwo.{no-twelve}
use Rattle.sentinel_laws.proofs.Slices.{slice-lacks, slice-wrong, slice-right}

module _ (x : Call) (m words dock : ℕ) (t : Words) where
  -- a number that is none of 2, 17 and 19 is the plain call's
  pub number-plain : (k : ℕ) → k ≢ 2 → k ≢ 17 → k ≢ 19 → refusal_with x m words dock t ≡ k → refusal x words dock t ≡ k
  unfolding refusal_with slice_number
  number-plain k a b c = go (header_ok t) (seventeen_in x t) (eqb m (3 * nodes t))
    where
      go : (p q r : Bool) →
          (let n = first_number (test (not p) 2 ∷ test q 17 ∷ test (not r) 19 ∷ []) in unless_refused n (refusal x words dock t) n ≡ k)
          → refusal x words dock t ≡ k
      go true true r h = absurd (b (sym h))
      go true false true h = h
      go true false false h = absurd (c (sym h))
      go false q r h = absurd (a (sym h))

  -- nor does a call with sentinels answer 12
  pub no-twelve-with : refusal_with x m words dock t ≢ 12
  no-twelve-with e = no-twelve x words dock t (number-plain 12 (λ q. omega arith) (λ q. omega arith) (λ q. omega arith) e)

  module _ (s : sound t ≡ true) where
    abbrev other : Bool
    other = not (eqb m (3 * nodes t))

    lacking-there : seventeen_in x t ≡ true → (f : ℕ) → refusal_with x m words dock t ≡ ledger_refusal x other words dock f (maps_of t)
    unfolding refusal_with ledger_refusal
    lacking-there h f = rw (slice-lacks (seventeen_in x t) m t (sound-head t s) h, sym (seventeen-same x t) ∙ h)

    wrong-there : seventeen_in x t ≡ false → eqb m (3 * nodes t) ≡ false → (f : ℕ) → refusal_with x m words dock t
        ≡ ledger_refusal x other words dock f (maps_of t)
    unfolding refusal_with ledger_refusal
    wrong-there h q f = rw
        (slice-wrong (seventeen_in x t) m t (sound-head t s) h (eqb-false m (3 * nodes t) q), sym (seventeen-same x t) ∙ h, q)

    right-there : seventeen_in x t ≡ false → eqb m (3 * nodes t) ≡ true → refusal_with x m words dock t ≡ refusal x words dock t
    unfolding refusal_with
    right-there h q = rw (slice-right (seventeen_in x t) m t (sound-head t s) h (eqb-true m (3 * nodes t) q))

    -- the same number as in the ledger
    pub with-in-ledger :
        refusal_with x m words dock t
        ≡ ledger_refusal x (not (eqb m (3 * nodes t))) words dock (fed_of (refusal_with x m words dock t)) (maps_of t)
    with-in-ledger = go (seventeen_in x t) refl (eqb m (3 * nodes t)) refl
      where
        go : (b : Bool) → seventeen_in x t ≡ b → (c : Bool) → eqb m (3 * nodes t) ≡ c
            → refusal_with x m words dock t ≡ ledger_refusal x other words dock (fed_of (refusal_with x m words dock t)) (maps_of t)
        go true h c q = lacking-there h _
        go false h false q = wrong-there h q _
        go false h true q =
            let e = right-there h q in
            rw (q, e) (number-in-ledger x words dock t s)
