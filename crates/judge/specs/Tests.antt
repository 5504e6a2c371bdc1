-- The tests before 21, which ask nothing of the change but its collection.
use Rattle.std.specs.Prelude.{Bool, not, List, [], ◌∷◌, ℕ, ◌/◌, eqb, length, Result, Ok}
use Rattle.model.specs.declared.Refusal.{Refusal}
use Rattle.model.specs.Results.{refused_with}
use Rattle.model.specs.Table.{Words, at, root_word, header_ok, no_collection}
use Rattle.model.specs.Reached.{reached_all}
use Rattle.model.specs.SoundTest.{sound, settled}
use Rattle.model.specs.Orders.{carry_number}
use Rattle.model.specs.Refusals.{Test, test, first_number, unless_refused}
use Rattle.judge.specs.declared.Start.{Start}

-- 17 is handed in
abbrev pub first_tests : (seventeen : Bool) → (t list : Words) → (out : ℕ) → List Test
first_tests seventeen t list out =
    test (not (header_ok t)) 2 ∷ test seventeen 17 ∷ test (not (sound t)) 4 ∷ test (not (settled t)) 20
    ∷ test (not (eqb (carry_number (length list / 2) list t) 0)) 13 ∷ test (not (eqb out (length t))) 15 ∷ []

-- the collection's root and how many nodes are reached, or that refusal
unfoldable pub tested : (n : ℕ) → (t list : Words) → (out : ℕ) → Result Start Refusal
tested n t list out =
    let first = first_number (first_tests (no_collection n t) t list out) in
    unless_refused first (Ok (record { root = at t (root_word n); reached = length (reached_all t) })) (refused_with first)
