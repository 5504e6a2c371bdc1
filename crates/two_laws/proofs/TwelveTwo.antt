-- No call answers 12. Document 01 had a test of that number straight after 5, that repair would find 11 shown slots in the parent: it never
-- held where
-- 4 did not come first.
use Rattle.std.proofs.Common.{◌≡◌, ℕ, Bool, true, false, ◌≢◌, ◌∷◌, length, refl, arith, ne_eqb}
use mathlib.Core.Option.{Option, none, some}
use Rattle.model.specs.Table.{Words}
use Rattle.model.specs.Slots.{node_view, full}
use Rattle.model.specs.SoundTest.{elem, Leftover, nothing, hidden_in, missing_in, both_in, leftover_all, sound}
use Rattle.model.specs.Writes.{Call, insertion, deletion, class_change, repair}
use Rattle.model.specs.Twelve.{full_parent, first_tests, later_tests}
use Rattle.model.specs.Refusals.{test, first_number, refusal}
use Rattle.step_laws.proofs.Numbers.{not-first}
use Rattle.two_laws.proofs.MendTwo.{missing-room, both-room}

never-full : (t : Words) (y : Option Leftover) → sound t ≡ true → leftover_all t ≡ y → full_parent t y ≡ false
unfolding full
never-full t none s e = refl
never-full t (some nothing) s e = refl
never-full t (some (hidden_in x)) s e = refl
never-full t (some (missing_in p a trailing)) s e = let r =
    missing-room t s p a trailing e in ne_eqb (length (node_view t p).shown) 11 (λ q. omega arith)
never-full t (some (both_in p a)) s e = let r = both-room t s p a e in ne_eqb (length (node_view t p).shown) 11 (λ q. omega arith)

-- With that test in its place every call answers as without it: on any words, of either collection, with an order list of any length, for
-- any dock.
pub same-with-twelve : (x : Call) (words dock : ℕ) (t : Words)
    → first_number (first_tests x words dock t (test (full_parent t (leftover_all t)) 12 ∷ later_tests x t)) ≡ refusal x words dock t
unfolding refusal
same-with-twelve x words dock t = go (sound t) refl
  where
    go : (b : Bool) → sound t ≡ b → first_number (first_tests x words dock t (test (full_parent t (leftover_all t)) 12 ∷ later_tests x t))
        ≡ refusal x words dock t
    go true s = rw (never-full t (leftover_all t) s refl)
    go false s = rw s

-- no call is refused with 12
pub no-twelve : (x : Call) (words dock : ℕ) (t : Words) → refusal x words dock t ≢ 12
unfolding refusal elem
no-twelve (insertion n k r c) words dock t =
    not-first 12 (first_tests (insertion n k r c) words dock t (later_tests (insertion n k r c) t)) refl
no-twelve (deletion n k) words dock t = not-first 12 (first_tests (deletion n k) words dock t (later_tests (deletion n k) t)) refl
no-twelve (class_change n k c) words dock t =
    not-first 12 (first_tests (class_change n k c) words dock t (later_tests (class_change n k c) t)) refl
no-twelve repair words dock t = not-first 12 (first_tests repair words dock t (later_tests repair t)) refl
