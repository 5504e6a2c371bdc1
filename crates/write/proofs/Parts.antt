-- A write in two parts: stores, and then those that the table they leave calls for.
use Rattle.std.proofs.Common.{◌≡◌, List, ◌++◌, sym, ap, ◌∙◌}
use Rattle.model.specs.Table.{Words}
use Rattle.model.specs.Orders.{Store, apply}
use Rattle.orders.specs.declared.Writer.{Writer}
use Rattle.orders.specs.Desk.{Desk, of, Makes, Room}
use Rattle.orders.proofs.Steps.{stored_all-table}
use Rattle.orders.proofs.Rest.{room-as, stored-as, then-room, then-stored}

-- the first part is made
module _ (ss : List Store) (rest : Words → List Store) {w v : Writer} (q : Makes ss w v) where
  -- after the first part the table is the one with these stores applied
  pub part-table : v.table.now ≡ apply ss w.table.now
  part-table = ap (λ (d : Desk). d.table) q.is ∙ stored_all-table ss (of w)

  rest-as : rest (apply ss w.table.now) ≡ rest v.table.now
  rest-as = ap rest (sym part-table)

  -- if there was room for both parts, then after the first there is room for the second
  pub part-room : Room (ss ++ rest (apply ss w.table.now)) (of w) → Room (rest v.table.now) (of v)
  part-room r = room-as _ _ (of v) rest-as (then-room ss (rest (apply ss w.table.now)) q r)

  -- a writer after the first part, then the second, is one after both
  pub part-stored : {z : Writer} → Makes (rest v.table.now) v z → Makes (ss ++ rest (apply ss w.table.now)) w z
  part-stored h = then-stored ss (rest (apply ss w.table.now)) q (stored-as rest-as h)
