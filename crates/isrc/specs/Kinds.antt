-- The test that each kind of character stands for.
use Rattle.std.specs.Prelude.{Bool, ℕ}
use Rattle.model.specs.Codes.{is_digit, is_letter, is_letter_or_digit}
use Rattle.isrc.specs.declared.Kind.{Kind}
use Rattle.isrc.specs.declared.Kind.TheVariants.{Letter, LetterOrDigit, Digit}

unfoldable pub test : Kind → ℕ → Bool
test Letter c = is_letter c
test LetterOrDigit c = is_letter_or_digit c
test Digit c = is_digit c
