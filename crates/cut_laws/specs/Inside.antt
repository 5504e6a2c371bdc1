-- Stores that lie in a table.
use Rattle.std.specs.Prelude.{List, ℕ, ◌<◌}
use Rattle.model.specs.Orders.{Store}
use Rattle.list_laws.specs.Each.{Each}

-- every store is to a word below n
abbrev pub StoresInside : ℕ → List Store → Type 0
StoresInside n ss = Each (λ (s : Store). s.word < n) ss
