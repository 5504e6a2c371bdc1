-- The judge's numbers in the request's order, 2, 17, 4, 20, 13, 15, 21: each comes exactly if its condition holds and none before it does.
use Rattle.std.proofs.Common.{◌≡◌, ℕ, ◌/◌, true, false, not, eqb, ◌≢◌, ◌↔◌, List, length, take, drop, sym, refl, ◌∙◌, eq-eqb, ne_eqb}
use Rattle.std.proofs.Common.{eqb-true}
use mathlib.Core.Bool.{false≢true}
use borrow.Author.Tests.{eqb-false}
use Rattle.model.specs.Table.{Words, header_ok}
use Rattle.model.specs.SoundTest.{elem, sound, settled}
use Rattle.model.specs.Orders.{decode, all_inside, carry_number}
use Rattle.model.specs.Writes.{Call}
use Rattle.model.specs.Refusals.{Test, seventeen_in, refusal}
use Rattle.model.specs.Judge.{judge_tests, judge_number, JudgeNumbers}
use Rattle.list_laws.proofs.Tools.{not-iff, not-false-iff, refuted}
use Rattle.step_laws.proofs.Numbers.{first-iff}
use Rattle.two_laws.proofs.SearchTwo.{sound-head}
use Rattle.two_laws.proofs.SameTwo.{settled-sound}
use Rattle.two_laws.proofs.CollectionTwo.{settled-head}
use Rattle.judge_laws.proofs.Calls.{whole-inside}

-- the test of two different numbers
differ-iff : (a b : ℕ) → (not (eqb a b) ≡ true) ↔ (a ≢ b)
differ-iff a b = (λ e. eqb-false a b ((not-iff _).0 e), λ z. (not-iff _).1 (ne_eqb a b z))

same-iff : (a b : ℕ) → (not (eqb a b) ≡ false) ↔ (a ≡ b)
same-iff a b = (λ e. eqb-true a b ((not-false-iff _).0 e), λ q. (not-false-iff _).1 (eq-eqb a b q))

module _ (x : Call) (t list : Words) (out : ℕ) where
  abbrev tests : List Test
  tests = judge_tests x t list out

  abbrev carried : ℕ
  carried = carry_number (length list / 2) list t

  outside-iff : settled t ≡ true → (carried ≢ 0) ↔ (all_inside (length t) (decode list) ≡ false)
  outside-iff s =
      let i = whole-inside t list (settled-head t s) in
      (λ z. refuted _ (λ a. z (i.1 a)), λ f z. false≢true (sym f ∙ i.0 z))

  pub judge-numbers : JudgeNumbers x t list out
  unfolding judge_number elem
  judge-numbers =
      let n2 = first-iff (take 0 tests) (not (header_ok t)) 2 (drop 1 tests) refl refl in
      let n17 = first-iff (take 1 tests) (seventeen_in x t) 17 (drop 2 tests) refl refl in
      let n4 = first-iff (take 2 tests) (not (sound t)) 4 (drop 3 tests) refl refl in
      let n20 = first-iff (take 3 tests) (not (settled t)) 20 (drop 4 tests) refl refl in
      let n13 = first-iff (take 4 tests) (not (eqb carried 0)) 13 (drop 5 tests) refl refl in
      let n15 = first-iff (take 5 tests) (not (eqb out (length t))) 15 (drop 6 tests) refl refl in
      let n21 = first-iff (take 6 tests) (not (eqb (refusal x 2560 0 t) 0)) 21 (drop 7 tests) refl refl in
      record {
        two = (λ e. (not-iff _).0 (n2.0 e).1, λ f. n2.1 (tt, (not-iff _).1 f));
        seventeen = (λ e. let h = n17.0 e in ((not-false-iff _).0 h.0.0, h.1), λ p. n17.1 (((not-false-iff _).1 p.0, tt), p.1));
        four = (
          λ e. let h = n4.0 e in ((not-false-iff _).0 h.0.0, h.0.1.0, (not-iff _).0 h.1),
          λ p. n4.1 (((not-false-iff _).1 p.0, (p.1, tt)), (not-iff _).1 p.2),
        );
        twenty = (
          λ e. let h = n20.0 e in (h.0.1.0, (not-false-iff _).0 h.0.1.1.0, (not-iff _).0 h.1),
          λ p. n20.1 (((not-false-iff _).1 (sound-head t p.1), (p.0, ((not-false-iff _).1 p.1, tt))), (not-iff _).1 p.2),
        );
        thirteen = (
          λ e. let h = n13.0 e in let s = (not-false-iff _).0 h.0.1.1.1.0 in (h.0.1.0, s, (outside-iff s).0 ((differ-iff _ _).0 h.1)),
          λ p. n13.1 (
            (
              (not-false-iff _).1 (settled-head t p.1),
              (p.0, ((not-false-iff _).1 (settled-sound t p.1), ((not-false-iff _).1 p.1, tt))),
            ),
            (differ-iff _ _).1 ((outside-iff p.1).1 p.2),
          ),
        );
        fifteen = (
          λ e. let h = n15.0 e in let s = (not-false-iff _).0 h.0.1.1.1.0 in
              (h.0.1.0, s, (whole-inside t list (settled-head t s)).0 ((same-iff _ _).0 h.0.1.1.1.1.0), (differ-iff _ _).0 h.1),
          λ p. let g = settled-head t p.1 in
              n15.1 (
                (
                  (not-false-iff _).1 g,
                  (
                    p.0,
                    (
                      (not-false-iff _).1 (settled-sound t p.1),
                      ((not-false-iff _).1 p.1, ((same-iff _ _).1 ((whole-inside t list g).1 p.2), tt)),
                    ),
                  ),
                ),
                (differ-iff _ _).1 p.3,
              ),
        );
        twenty-one = (
          λ e. let h = n21.0 e in let s = (not-false-iff _).0 h.0.1.1.1.0 in (
            h.0.1.0,
            s,
            (whole-inside t list (settled-head t s)).0 ((same-iff _ _).0 h.0.1.1.1.1.0),
            (same-iff _ _).0 h.0.1.1.1.1.1.0,
            (differ-iff _ _).0 h.1,
          ),
          λ p. let g = settled-head t p.1 in
              n21.1 (
                (
                  (not-false-iff _).1 g,
                  (
                    p.0,
                    (
                      (not-false-iff _).1 (settled-sound t p.1),
                      ((not-false-iff _).1 p.1, ((same-iff _ _).1 ((whole-inside t list g).1 p.2), ((same-iff _ _).1 p.3, tt))),
                    ),
                  ),
                ),
                (differ-iff _ _).1 p.4,
              ),
        );
      }
