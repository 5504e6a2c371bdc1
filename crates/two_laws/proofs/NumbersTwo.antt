-- The number of a call of one or two collections on a sound table: each comes exactly on its condition, 17 before all others.
use Rattle.std.proofs.Common.{◌≡◌, ℕ, Bool, true, false, not, ltb, ◌↔◌, List, [], ◌∷◌, take, drop, refl, ◌∙◌}
use Rattle.model.specs.Table.{Words}
use Rattle.model.specs.Slots.{class_ok}
use Rattle.model.specs.SoundTest.{elem, sound}
use Rattle.model.specs.Refusals.{Test, test, first_number, has_key, has_recording, seventeen_in, too_high, too_few, refusal}
use Rattle.model.specs.Reached.{map_of}
use Rattle.model.specs.Writes.{repaired, Call, insertion, deletion, class_change, repair}
use Rattle.step_laws.proofs.Numbers.{Passed, Other, first-iff}
use Rattle.two_laws.proofs.JudgedTwo.{tests_on, number-on-sound}
use Rattle.two_laws.proofs.LedgerTwo.{from-eighteen}

-- 17, then the tests that a sound table leaves
abbrev pub all_tests : Call → (words dock : ℕ) → Words → List Test
all_tests x words dock t = test (seventeen_in x t) 17 ∷ tests_on x words dock t

number-with : (x : Call) (words dock : ℕ) (t : Words) → sound t ≡ true → refusal x words dock t ≡ first_number (all_tests x words dock t)
number-with x words dock t s = go (seventeen_in x t) refl
  where
    go : (b : Bool) → seventeen_in x t ≡ b → refusal x words dock t ≡ first_number (all_tests x words dock t)
    go true h = from-eighteen x words dock t s ∙ rw h
    go false h = number-on-sound x words dock t s h ∙ rw h

first-alone : (b : Bool) (n : ℕ) (after : List Test) → Other n [] → Other n after → (first_number (test b n ∷ after) ≡ n) ↔ (b ≡ true)
first-alone b n after o a = let u = first-iff [] b n after o a in (λ e. (u.0 e).1, λ e. u.1 (tt, e))

module _ (words dock : ℕ) (t : Words) (s : sound t ≡ true) where
  -- 17: the collection is not there
  pub seventeen-iff : (x : Call) → (refusal x words dock t ≡ 17) ↔ (seventeen_in x t ≡ true)
  unfolding elem
  seventeen-iff (insertion n k r c) =
      rw (number-with (insertion n k r c) words dock t s)
      (first-alone (seventeen_in (insertion n k r c) t) 17 (tests_on (insertion n k r c) words dock t) refl refl)
  seventeen-iff (deletion n k) =
      rw (number-with (deletion n k) words dock t s)
      (first-alone (seventeen_in (deletion n k) t) 17 (tests_on (deletion n k) words dock t) refl refl)
  seventeen-iff (class_change n k c) =
      rw (number-with (class_change n k c) words dock t s)
      (first-alone (seventeen_in (class_change n k c) t) 17 (tests_on (class_change n k c) words dock t) refl refl)
  seventeen-iff repair =
      rw (number-with repair words dock t s) (first-alone (seventeen_in repair t) 17 (tests_on repair words dock t) refl refl)

  -- 18: the dock is neither 0 nor 1
  pub eighteen-iff : (x : Call) → (refusal x words dock t ≡ 18) ↔ ((seventeen_in x t ≡ false) × (ltb 1 dock ≡ true))
  unfolding elem
  eighteen-iff x = rw (number-with x words dock t s) (go x)
    where
      alone : (x : Call) → Other 18 (drop 2 (all_tests x words dock t))
          → (first_number (all_tests x words dock t) ≡ 18) ↔ ((seventeen_in x t ≡ false) × (ltb 1 dock ≡ true))
      alone x o = let u = first-iff (take 1 (all_tests x words dock t)) (ltb 1 dock) 18 (drop 2 (all_tests x words dock t)) refl o in
          (λ e. ((u.0 e).0.0, (u.0 e).1), λ p. u.1 ((p.0, tt), p.1))

      go : (x : Call) → (first_number (all_tests x words dock t) ≡ 18) ↔ ((seventeen_in x t ≡ false) × (ltb 1 dock ≡ true))
      go (insertion n k r c) = alone (insertion n k r c) refl
      go (deletion n k) = alone (deletion n k) refl
      go (class_change n k c) = alone (class_change n k c) refl
      go repair = alone repair refl

  -- an insertion's tests: 17, 18, 5, 6, 14, 7, 8, 11, 10
  module _ (n k r c : ℕ) where
    abbrev x : Call
    x = insertion n k r c

    abbrev tests : List Test
    tests = all_tests (insertion n k r c) words dock t

    pub fourteen-iff : (refusal (insertion n k r c) words dock t ≡ 14) ↔
        (Passed (take 4 (all_tests (insertion n k r c) words dock t)) × ((not (class_ok c)) ≡ true))
    unfolding elem
    fourteen-iff = rw (number-with x words dock t s) (first-iff (take 4 tests) (not (class_ok c)) 14 (drop 5 tests) refl refl)

    pub seven-iff : (refusal (insertion n k r c) words dock t ≡ 7) ↔
        (Passed (take 5 (all_tests (insertion n k r c) words dock t)) × ((has_key k (map_of n t)) ≡ true))
    unfolding elem
    seven-iff = rw (number-with x words dock t s) (first-iff (take 5 tests) (has_key k (map_of n t)) 7 (drop 6 tests) refl refl)

    pub eight-iff : (refusal (insertion n k r c) words dock t ≡ 8) ↔
        (Passed (take 6 (all_tests (insertion n k r c) words dock t)) × ((has_recording r (map_of n t)) ≡ true))
    unfolding elem
    eight-iff = rw (number-with x words dock t s) (first-iff (take 6 tests) (has_recording r (map_of n t)) 8 (drop 7 tests) refl refl)

    pub eleven-iff : (refusal (insertion n k r c) words dock t ≡ 11) ↔
        (Passed (take 7 (all_tests (insertion n k r c) words dock t)) × ((too_high n (repaired t) k) ≡ true))
    unfolding elem
    eleven-iff = rw (number-with x words dock t s) (first-iff (take 7 tests) (too_high n (repaired t) k) 11 (drop 8 tests) refl refl)

    -- 10 comes only where there are too few unreachable nodes; where there are enough, the insertion is accepted and does its work
    pub ten-iff : (refusal (insertion n k r c) words dock t ≡ 10) ↔
        (Passed (take 8 (all_tests (insertion n k r c) words dock t)) × ((too_few n (repaired t) k) ≡ true))
    unfolding elem
    ten-iff = rw (number-with x words dock t s) (first-iff (take 8 tests) (too_few n (repaired t) k) 10 (drop 9 tests) refl refl)

  -- a deletion's tests: 17, 18, 5, 9
  pub nine-iff : (n k : ℕ)
      → (refusal (deletion n k) words dock t ≡ 9) ↔
      (Passed (take 3 (all_tests (deletion n k) words dock t)) × ((not (has_key k (map_of n t))) ≡ true))
  unfolding elem
  nine-iff n k = rw (number-with (deletion n k) words dock t s)
      (first-iff (take 3 (all_tests (deletion n k) words dock t)) (not (has_key k (map_of n t))) 9 [] refl refl)

  -- a class change's tests: 17, 18, 5, 14, 9
  module _ (n k c : ℕ) where
    abbrev class-tests : List Test
    class-tests = all_tests (class_change n k c) words dock t

    pub class-fourteen-iff :
        (refusal (class_change n k c) words dock t ≡ 14) ↔
        (Passed (take 3 (all_tests (class_change n k c) words dock t)) × ((not (class_ok c)) ≡ true))
    unfolding elem
    class-fourteen-iff =
        rw (number-with (class_change n k c) words dock t s)
        (first-iff (take 3 class-tests) (not (class_ok c)) 14 (drop 4 class-tests) refl refl)

    pub class-nine-iff :
        (refusal (class_change n k c) words dock t ≡ 9) ↔
        (Passed (take 4 (all_tests (class_change n k c) words dock t)) × ((not (has_key k (map_of n t))) ≡ true))
    unfolding elem
    class-nine-iff = rw (number-with (class_change n k c) words dock t s)
        (first-iff (take 4 class-tests) (not (has_key k (map_of n t))) 9 [] refl refl)
