-- `isrc::is_of` meets its contract.
use Rattle.std.proofs.Common.{◌≡◌, ℕ, Bool, ◌&&◌, ◌||◌, leb, ◌∙◌}
use Rattle.model.specs.Codes.{is_digit, is_letter, is_letter_or_digit}
use Rattle.isrc.specs.Kinds.{test}
use Rattle.isrc.specs.declared.Kind.{Kind}
use Rattle.isrc.specs.declared.Kind.TheVariants.{LetterOrDigit}
use Rattle.isrc.proofs.is_of.Goals as goal

-- r is what the test for a letter gave, known to be s
either-test : (kind : Kind) (c : ℕ) (r s : Bool) → kind ≡ LetterOrDigit → r ≡ (leb 65 c && leb c 90) → r ≡ s
    → (s || (leb 48 c && leb c 57)) ≡ test kind c
unfolding test is_letter_or_digit is_letter is_digit
either-test kind c r s e f g = rw (e, ← f, g)

pub returns-in-Letter : goal.returns-in-Letter
unfolding test is_letter
returns-in-Letter c = rw c.in-Letter.is c.is_ascii_uppercase.ensures.value

pub returns-in-Digit : goal.returns-in-Digit
unfolding test is_digit
returns-in-Digit c = rw c.in-Digit.is c.is_ascii_digit.ensures.value

pub returns-then-is_ascii_uppercase : goal.returns-then-is_ascii_uppercase
returns-then-is_ascii_uppercase c =
    c.if-is_ascii_uppercase.true
    ∙ either-test _ _ _ _ c.in-LetterOrDigit.is c.is_ascii_uppercase-in-LetterOrDigit.ensures.value c.if-is_ascii_uppercase.true

pub returns-else-is_ascii_uppercase : goal.returns-else-is_ascii_uppercase
returns-else-is_ascii_uppercase c =
    c.is_ascii_digit-else-is_ascii_uppercase.ensures.value
    ∙ either-test _ _ _ _ c.in-LetterOrDigit.is c.is_ascii_uppercase-in-LetterOrDigit.ensures.value c.if-is_ascii_uppercase.false
