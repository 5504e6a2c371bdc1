-- The tests that all writing calls share.
use Rattle.std.specs.Prelude.{Bool, not, None, Some, Result, Ok, List, [], ◌∷◌, ℕ, ltb}
use Rattle.model.specs.declared.Refusal.{Refusal}
use Rattle.model.specs.Results.{refused_with}
use Rattle.model.specs.Table.{Words, header_ok}
use Rattle.model.specs.SoundTest.{sound}
use Rattle.model.specs.Refusals.{Test, test, first_number, words_for, unless_refused}
use Rattle.sound.specs.declared.Sound.{Sound}
use Rattle.sound.specs.Checked.{Checked, checked}

-- 17 is handed in: a repair names no collection
abbrev pub shared_tests : (seventeen : Bool) → (words dock : ℕ) → Words → List Test
shared_tests seventeen words dock t =
    test (not (header_ok t)) 2 ∷ test seventeen 17 ∷ test (not (sound t)) 4
    ∷ test (ltb 1 dock) 18 ∷ test (ltb words (words_for dock)) 5 ∷ []

-- the number of the first of them that holds; 0 if none does
unfoldable pub shared : (seventeen : Bool) → (words dock : ℕ) → Words → ℕ
shared seventeen words dock t = first_number (shared_tests seventeen words dock t)

abbrev pub Judged : Type 0
Judged = Result Sound Refusal

abbrev pub ready_with : Checked → Judged
ready_with None = refused_with 4
ready_with (Some s) = Ok s

unfoldable pub judged : (seventeen : Bool) → (words dock : ℕ) → Words → Judged
judged seventeen words dock t = unless_refused (shared seventeen words dock t) (ready_with (checked t)) (refused_with (shared seventeen words dock t))
