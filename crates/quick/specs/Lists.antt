-- The tests of the order list that a quick call is lent.
use Rattle.std.specs.Prelude.{List, [], ◌∷◌, ℕ, ltb}
use Rattle.model.specs.Refusals.{Test, test, first_number, words_for}

abbrev pub lent_tests : (words dock : ℕ) → List Test
lent_tests words dock = test (ltb 1 dock) 18 ∷ test (ltb words (words_for dock)) 5 ∷ []

-- the number of the first of them that holds; 0 if none does
unfoldable pub lent_number : (words dock : ℕ) → ℕ
lent_number words dock = first_number (lent_tests words dock)
