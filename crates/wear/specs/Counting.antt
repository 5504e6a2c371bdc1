-- A word's bits, and the most over the lines from a line on.
use Rattle.std.specs.Prelude.{Bool, cond, ℕ, ◌/◌, ◌%◌, ◌^◌, eqb, ltb}
use Rattle.wear.specs.declared.Most.{Most}

-- whether bit i of a word is 1
abbrev pub bit : ℕ → ℕ → Bool
bit word i = eqb (word / 2 ^ i % 2) 1

-- m with line i, which has so many stores, before the others
abbrev pub or_here : Most → (i stores : ℕ) → Most
or_here m i stores = cond (ltb stores m.largest) m (record { largest = stores; first = i })
