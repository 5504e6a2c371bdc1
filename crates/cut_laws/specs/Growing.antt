-- The order list while it grows, one store at a time: what each store adds, and the line that is open, with stores not yet flushed.
use Rattle.std.specs.Prelude.{cond, List, [], ◌∷◌, ◌++◌, ℕ, ◌+◌, eqb}
use Rattle.std.proofs.Math.Option.{Option, none, some}
use Rattle.model.specs.Table.{line}
use Rattle.model.specs.Orders.{Store, Order, store, flush}

-- the flush that is due before a store: that of the open line, if the store goes to another one
abbrev pub due : (open-line : Option ℕ) → Store → List Order
due none s = []
due (some l) s = cond (eqb (line s.word) l) [] (flush l ∷ [])

-- the orders that these stores add to a list; their last line is left open
unfoldable pub added : (open-line : Option ℕ) → List Store → List Order
added o [] = []
added o (s ∷ ss) = due o s ++ (store s ∷ added (some (line s.word)) ss)

-- the line that is open after them
unfoldable pub open_after : (open-line : Option ℕ) → List Store → Option ℕ
open_after o [] = o
open_after o (s ∷ ss) = open_after (some (line s.word)) ss

-- the flush at the end
abbrev pub closing : (open-line : Option ℕ) → List Order
closing none = []
closing (some l) = flush l ∷ []

-- the orders of a list of stores without the flush at the end, and the line which that flush is of
abbrev pub open_orders : List Store → List Order
open_orders ss = added none ss

abbrev pub open_line : List Store → Option ℕ
open_line ss = open_after none ss

-- how often a store goes to another line than the store before it; l is the line before the first
unfoldable pub changes_from : (l : ℕ) → List Store → ℕ
changes_from l [] = 0
changes_from l (s ∷ ss) = cond (eqb (line s.word) l) 0 1 + changes_from (line s.word) ss

unfoldable pub line_changes : List Store → ℕ
line_changes [] = 0
line_changes (s ∷ ss) = changes_from (line s.word) ss
