-- The stores among orders, and which lines hold unflushed ones.
use Rattle.std.specs.Prelude.{List, [], ◌∷◌, ℕ, take}
use Rattle.model.specs.Orders.{Store, Order, store, flush, barrier}
use Rattle.model.specs.Judge.{OneUnflushed}

-- the stores among the orders
unfoldable pub stores_in : List Order → List Store
stores_in [] = []
stores_in (store s ∷ os) = s ∷ stores_in os
stores_in (flush l ∷ os) = stores_in os
stores_in (barrier ∷ os) = stores_in os

-- no two lines ever hold unflushed stores
abbrev pub OneLine : List Order → Type 0
OneLine os = (c : ℕ) → OneUnflushed (take c os)
