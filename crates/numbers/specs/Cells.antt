-- Cells that hold numbers, 0 in a free one: what entering a number answers, and the cells after it.
use Rattle.std.specs.Prelude.{◌≡◌, Bool, true, false, List, [], ◌∷◌, ℕ, zero, suc, ◌%◌, eqb, length, get_or, set, Result, Ok, Err}
use Rattle.model.specs.Table.{Words}
use Rattle.model.specs.SoundTest.{distinct}
pub use Rattle.model.specs.Cells.{SPREAD}
unfoldable pub use Rattle.model.specs.Cells.{mixed, next_cell}
use Rattle.numbers.specs.declared.Stop.{Stop}
use Rattle.numbers.specs.declared.Stop.TheVariants.{Known, Full}

abbrev pub CELLS : ℕ
CELLS = 16384

abbrev pub TRIES : ℕ
TRIES = 128

-- a number is entered, or why not
abbrev pub Entry : Type 0
Entry = Result (Unit {0}) Stop

pub record Outcome : Type 0 where
  pub answer : Entry
  pub cells : Words

abbrev pub outcome : Entry → Words → Outcome
outcome e cs = record { answer = e; cells = cs }

-- from cell i of n on, so many tries
unfoldable pub tried : (n : ℕ) → Words → ℕ → ℕ → ℕ → Outcome
tried n cs r i zero = outcome (Err Full) cs
tried n cs r i (suc m) =
    elim (eqb (get_or cs i 0) r) [
      | true ↦ outcome (Err Known) cs
      | false ↦ elim (eqb (get_or cs i 0) 0) [ true ↦ outcome (Ok tt) (set cs i r) | false ↦ tried n cs r (next_cell n i) m ]
    ]

-- so many tries; 0, which marks a free cell, is not entered
unfoldable pub entered : (m : ℕ) → Words → ℕ → Outcome
entered m cs r = elim (eqb r 0) [ true ↦ outcome (Err Full) cs | false ↦ tried (length cs) cs r (mixed r % length cs) m ]

-- after a number that was entered the next one; a number that is known, or finds no cell, is the last
abbrev pub followed : Outcome → (Words → Outcome) → Outcome
followed o next = elim o.answer [ Ok x ↦ next o.cells | Err s ↦ o ]

-- a number, if it passes p
unfoldable pub entered_if : (ℕ → Bool) → Words → ℕ → Outcome
entered_if p cs x = elim (p x) [ true ↦ entered TRIES cs x | false ↦ outcome (Ok tt) cs ]

-- the numbers that pass p, one by one
unfoldable pub entered_all : (ℕ → Bool) → List ℕ → Words → Outcome
entered_all p [] cs = outcome (Ok tt) cs
entered_all p (x ∷ xs) cs = followed (entered_if p cs x) (entered_all p xs)

-- what the answer says of the numbers: none is there twice, or one is; if the cells got full, nothing
abbrev pub Tells : Entry → List ℕ → Type 0
Tells (Ok x) ys = distinct ys ≡ true
Tells (Err Known) ys = distinct ys ≡ false
Tells (Err Full) ys = Unit {0}
