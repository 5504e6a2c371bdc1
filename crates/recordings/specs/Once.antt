-- None of the first numbers comes again, among them or among the later ones.
use Rattle.std.specs.Prelude.{Bool, true, not, ◌&&◌, List, [], ◌∷◌, ◌++◌, ℕ}
use Rattle.model.specs.SoundTest.{elem}

unfoldable pub once_before : List ℕ → List ℕ → Bool
once_before [] ys = true
once_before (x ∷ xs) ys = not (elem x (xs ++ ys)) && once_before xs ys
