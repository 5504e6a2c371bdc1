-- The run of full nodes that ends a search's path, judged on the table as repair would leave it.
use Rattle.std.specs.Prelude.{Bool, true, false, cond, List, [], ◌∷◌, Option, Some, ℕ, suc, ◌+◌, eqb, length}
use Rattle.std.specs.Option.{option_eq}
use Rattle.model.specs.Slots.{View, height}
use Rattle.model.specs.Search.{path}
use Rattle.model.specs.Reached.{kept}
use Rattle.model.specs.SoundTest.{all}
use Rattle.reach.specs.declared.Run.{Run}

-- Node n will be full: it keeps 11 slots, counting the one that it is to get if it is the parent that lacks a slot.
unfoldable pub full_in : View → (parent : Option ℕ) → (n : ℕ) → Bool
full_in v parent n = eqb (length (kept v n) + cond (option_eq eqb parent (Some n)) 1 0) 11

-- the length of the longest end of a list all of whose elements pass
unfoldable pub end_run : (ℕ → Bool) → List ℕ → ℕ
end_run p [] = 0
end_run p (n ∷ ns) = elim (all p (n ∷ ns)) [ true ↦ length (n ∷ ns) | false ↦ end_run p ns ]

-- the running count after one more, which passes or not: 0 after one that does not
abbrev pub counted : (count : ℕ) → Bool → ℕ
counted count b = cond b (count + 1) 0

-- after an element
abbrev pub run_after : (ℕ → Bool) → (count n : ℕ) → ℕ
run_after p count n = counted count (p n)

-- the running count over a list
unfoldable pub run_from : (ℕ → Bool) → ℕ → List ℕ → ℕ
run_from p count [] = count
run_from p count (n ∷ ns) = run_from p (run_after p count n) ns

-- the run for key k, and whether it includes the root
unfoldable pub full_run : View → (k : ℕ) → (parent : Option ℕ) → Run
full_run v k parent =
    let run = end_run (full_in v parent) (path v k) in
    record { length = run; root = eqb run (suc (height v)) }
