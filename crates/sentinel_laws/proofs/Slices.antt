-- Refusal 19: where it stands, and that a call with a slice of the right length is the plain call but for the slice.
use Rattle.std.proofs.Common.{◌≡◌, ℕ, zero, suc, ◌*◌, Bool, true, false, not, eqb, ◌≢◌, List, [], ◌∷◌, length, refl, arith, eq-eqb, ne_eqb}
use Rattle.std.proofs.Common.{eqb-true}
use Rattle.model.specs.Results.{refused_with}
use Rattle.model.specs.Table.{Words, nodes, header_ok}
use Rattle.model.specs.SoundTest.{sound}
use Rattle.model.specs.Writes.{Call, repaired}
use Rattle.model.specs.Refusals.{Test, test, first_number, tests_from18, seventeen_in, eleven_in, ten_in, own_map, refusal, unless_refused}
use Rattle.model.specs.Refusals.{written, table_after, list_after}
use Rattle.model.specs.Sentinels.{slice_number, refusal_with, written_with, table_with, orders_with}

-- ---- the three tests

module _ (lacks : Bool) (m : ℕ) (t : Words) where
  -- a header that is not right gives 2
  pub slice-bad : header_ok t ≡ false → slice_number lacks m t ≡ 2
  unfolding slice_number
  slice-bad e = rw e

  -- a right header without the collection gives 17
  pub slice-lacks : header_ok t ≡ true → lacks ≡ true → slice_number lacks m t ≡ 17
  unfolding slice_number
  slice-lacks e f = rw (e, f)

  pub slice-wrong : header_ok t ≡ true → lacks ≡ false → m ≢ 3 * nodes t → slice_number lacks m t ≡ 19
  unfolding slice_number
  slice-wrong e f g = rw (e, f, ne_eqb m (3 * nodes t) g)

  pub slice-right : header_ok t ≡ true → lacks ≡ false → m ≡ 3 * nodes t → slice_number lacks m t ≡ 0
  unfolding slice_number
  slice-right e f g = rw (e, f, eq-eqb m (3 * nodes t) g)

  -- none of them holds
  pub record Fits : Type 0 where
    pub header : header_ok t ≡ true
    pub there : lacks ≡ false
    pub long : m ≡ 3 * nodes t

  -- if the number is 0, the header is right, the collection is there, and the slice is 3 words a node long
  pub fits : slice_number lacks m t ≡ 0 → Fits
  unfolding slice_number
  fits = go (header_ok t) refl lacks refl (eqb m (3 * nodes t)) refl
    where
      go : (a : Bool) → header_ok t ≡ a → (b : Bool) → lacks ≡ b → (c : Bool) → eqb m (3 * nodes t) ≡ c
          → first_number (test (not a) 2 ∷ test b 17 ∷ test (not c) 19 ∷ []) ≡ 0 → Fits
      go true a false b true c h = record { header = a; there = b; long = eqb-true m (3 * nodes t) c }
      go true a false b false c h = absurd (omega arith)
      go true a true b c d h = absurd (omega arith)
      go false a b c d e h = absurd (omega arith)

-- ---- a writing call

-- the numbers from 4 on
abbrev later_tests : Call → (words dock : ℕ) → Words → List Test
later_tests x words dock t = let t' =
    repaired t in test (not (sound t)) 4 ∷ tests_from18 x words dock (eleven_in x t') (ten_in x t') (own_map x t')

module _ (x : Call) (m words dock : ℕ) (t : Words) where
  -- 19 comes straight after 17, and all others stand where they stood.
  pub nineteen-place : refusal_with x m words dock t
      ≡ first_number (test (not (header_ok t)) 2 ∷ test (seventeen_in x t) 17 ∷ test (not (eqb m (3 * nodes t))) 19
      ∷ later_tests x words dock t)
  unfolding refusal_with slice_number refusal
  nineteen-place = go (header_ok t) (seventeen_in x t) (eqb m (3 * nodes t)) (later_tests x words dock t)
    where
      go : (a b c : Bool) (later : List Test)
          → (let r = first_number (test (not a) 2 ∷ test b 17 ∷ test (not c) 19 ∷ []) in unless_refused r
          (first_number (test (not a) 2 ∷ test b 17 ∷ later)) r)
          ≡ first_number (test (not a) 2 ∷ test b 17 ∷ test (not c) 19 ∷ later)
      go true true c later = refl
      go true false true later = refl
      go true false false later = refl
      go false b c later = refl

  -- where one of the tests before 19 holds, the plain call refuses with it
  same-first : m ≡ 3 * nodes t → (k : ℕ) → slice_number (seventeen_in x t) m t ≡ suc k → refusal x words dock t ≡ suc k
  unfolding slice_number refusal
  same-first e k = rw (eq-eqb m (3 * nodes t) e) (go (header_ok t) (seventeen_in x t) (later_tests x words dock t))
    where
      go : (a b : Bool) (later : List Test) → first_number (test (not a) 2 ∷ test b 17 ∷ test false 19 ∷ []) ≡ suc k
          → first_number (test (not a) 2 ∷ test b 17 ∷ later) ≡ suc k
      go true true later h = h
      go true false later h = absurd (omega arith)
      go false b later h = h

  -- accepted with the slice: its length is right, and the plain call is accepted
  pub with-accepted : refusal_with x m words dock t ≡ 0 → (slice_number (seventeen_in x t) m t ≡ 0) × (refusal x words dock t ≡ 0)
  unfolding refusal_with
  with-accepted = go (slice_number (seventeen_in x t) m t) (refusal x words dock t)
    where
      go : (r q : ℕ) → unless_refused r q r ≡ 0 → (r ≡ 0) × (q ≡ 0)
      go zero q h = (refl, h)
      go (suc r) q h = absurd (omega arith)

-- the plain call: number, answer, table and order list
pub record Plain (x : Call) (m : ℕ) (lent : Words) (dock : ℕ) (t : Words) : Type 0 where
  pub number : refusal_with x m (length lent) dock t ≡ refusal x (length lent) dock t
  pub answer : written_with x m (length lent) dock t ≡ written x (length lent) dock t
  pub table : table_with x m (length lent) dock t ≡ table_after x (length lent) dock t
  pub list : orders_with x m lent dock t ≡ list_after x lent dock t

-- With a slice of the right length, true words or not, it is the plain call.
pub plain-call : (x : Call) (m : ℕ) (lent : Words) (dock : ℕ) (t : Words) → m ≡ 3 * nodes t → Plain x m lent dock t
unfolding refusal_with written_with table_with orders_with written table_after list_after
plain-call x m lent dock t e = go (slice_number (seventeen_in x t) m t) refl
  where
    go : (r : ℕ) → slice_number (seventeen_in x t) m t ≡ r → Plain x m lent dock t
    go zero h = record { number = rw h; answer = rw h; table = rw h; list = rw h }
    go (suc k) h =
        let q = same-first x m (length lent) dock t e k h in
        record { number = rw (h, q); answer = rw (h, q); table = rw (h, q); list = rw (h, q) }

-- With another it is refused before anything is stored, where the header is right and the collection is there with 19.
pub record Refuses (x : Call) (m : ℕ) (lent : Words) (dock : ℕ) (t : Words) (n : ℕ) : Type 0 where
  pub number : refusal_with x m (length lent) dock t ≡ n
  pub answer : written_with x m (length lent) dock t ≡ refused_with n
  pub table : table_with x m (length lent) dock t ≡ t
  pub list : orders_with x m lent dock t ≡ lent

pub wrong-slice : (x : Call) (m : ℕ) (lent : Words) (dock : ℕ) (t : Words) → header_ok t ≡ true → seventeen_in x t ≡ false → m ≢ 3 * nodes t
    → Refuses x m lent dock t 19
unfolding refusal_with written_with table_with orders_with
wrong-slice x m lent dock t h s z = let e =
    slice-wrong (seventeen_in x t) m t h s z in record { number = rw e; answer = rw e; table = rw e; list = rw e }
