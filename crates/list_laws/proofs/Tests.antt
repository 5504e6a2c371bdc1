-- A test of all elements: the library's, which a closure is called with, is the model's.
use Rattle.std.proofs.Common.{◌≡◌, Bool, ◌&&◌, List, [], ◌∷◌, refl, ap}
use Rattle.std.specs.List.{list_all}
use Rattle.model.specs.Lists.{all}

-- the library's test of all items of a list and the model's are the same
pub listed-all : {A : Type 0} (p : A → Bool) (xs : List A) → list_all p xs ≡ all p xs
unfolding all
listed-all p [] = refl
listed-all p (x ∷ xs) = ap (λ b. p x && b) (listed-all p xs)
