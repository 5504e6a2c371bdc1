-- `script_bytes::next_number` meets its contract.
use Rattle.std.proofs.Common.{◌≡◌, ℕ, ◌+◌, ◌-◌, ◌*◌, ◌^◌, ◌<◌, ◌≤◌, Bool, true, false, ◌&&◌, leb, sym, ap, ◌∙◌, arith, rules, le-leb}
use native.Mathlib.Decide.{dec_lt}
use borrow.Author.Tests.{lt-leb}
use Rattle.std.specs.Prelude.{Option, Some, None, SomeIff}
use Rattle.isrc.proofs.Characters.{value-digit}
use Rattle.model.specs.Codes.{is_digit, value}
use Rattle.model.specs.Table.{MARK}
use Rattle.script_bytes.specs.Line.{next_number}
use Rattle.script_bytes.proofs.next_number.Goals as goal

told : (b : ℕ) (r t : Bool) → r ≡ (leb 48 b && leb b 57) → r ≡ t → is_digit b ≡ t
unfolding is_digit
told b r t e f = sym e ∙ f

no_digit : (n b : ℕ) → is_digit b ≡ false → ◌≡◌ {A = Option ℕ} None (next_number n b)
unfolding next_number
no_digit n b d = rw d

not-below : (m k : ℕ) → (m < k → ⊥) → k ≤ m
not-below m k h = go (dec_lt m k)
  where
    go : Dec (m < k) → k ≤ m
    go (yes l) = absurd (h l)
    go (no l) = omega arith

-- ten times the number is too large, or it is m
too_large : (n b : ℕ) (q : Option ℕ) → SomeIff q (n * 10 < 2 ^ 64) (n * 10) → q ≡ None → is_digit b ≡ true
    → ◌≡◌ {A = Option ℕ} None (next_number n b)
unfolding next_number
too_large n b (Some m) h e d = let z : ◌≡◌ {A = ℕ} 0 1 = cc in absurd (omega arith)
too_large n b None h e d = rw (d, lt-leb (n * 10 + value b) MARK (omega (arith, not-below (n * 10) (2 ^ 64) h)))

times-ten : (n m : ℕ) (q : Option ℕ) → SomeIff q (n * 10 < 2 ^ 64) (n * 10) → q ≡ Some m → m ≡ n * 10
times-ten n m (Some k) h e = let s : k ≡ m = cc in omega (arith, h.1)
times-ten n m None h e = let z : ◌≡◌ {A = ℕ} 0 1 = cc in absurd (omega arith)

added : (n b m : ℕ) (r : Option ℕ) → m ≡ n * 10 → SomeIff r (m + (b - 48) < 2 ^ 64) (m + (b - 48)) → is_digit b ≡ true → r ≡ next_number n b
unfolding next_number
added n b m None e h d = rw (d, value-digit b d, lt-leb (n * 10 + (b - 48)) MARK (omega (arith, e, not-below (m + (b - 48)) (2 ^ 64) h)))
added n b m (Some x) e h d =
    let s : x ≡ n * 10 + (b - 48) = omega (arith, h.1) in
    rw (d, value-digit b d, le-leb (n * 10 + (b - 48)) MARK (omega (arith, e, h.0))) (ap Some s)

pub returns-then-not-is_ascii_digit : goal.returns-then-not-is_ascii_digit
returns-then-not-is_ascii_digit c = no_digit _ _ (told _ _ _ c.is_ascii_digit.ensures.value (search rules))

pub returns-in_err-checked_mul : goal.returns-in_err-checked_mul
returns-in_err-checked_mul c =
    c.from_residual.ensures
    ∙ too_large _ _ _ c.checked_mul.ensures c.in_err-checked_mul.was (told _ _ _ c.is_ascii_digit.ensures.value (search rules))

pub returns : goal.returns
returns c =
    added _ _ _ _ (times-ten _ _ _ c.checked_mul.ensures c.in_ok-checked_mul.was) c.checked_add.ensures
    (told _ _ _ c.is_ascii_digit.ensures.value (search rules))
