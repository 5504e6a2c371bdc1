-- P holds of each item of a list: what `all` computes, as a type.
use Rattle.std.specs.Prelude.{List, [], ◌∷◌}

abbrev pub Each {ℓ} : {A : Type ℓ} → (A → Type 0) → List A → Type 0
Each P [] = Unit {0}
Each P (x ∷ xs) = P x × Each P xs
