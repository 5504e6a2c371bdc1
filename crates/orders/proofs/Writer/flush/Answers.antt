-- `orders::Writer::flush` meets its contract.
use Rattle.std.proofs.Common.{rules, refl}
use Rattle.orders.proofs.Turning.{finish-none, finish-open, room-open}
use Rattle.orders.proofs.Writer.flush.Goals as goal

pub put-requires : goal.put-requires
put-requires c = room-open _ c.in-Some.line c.requires (search rules)

pub returns-in-Some : goal.returns-in-Some
returns-in-Some c =
    let p = c.put.ensures in
    record { is = finish-open _ c.in-Some.line _ (search rules) (search rules) p.is; same_table = p.same_table; same_list = p.same_list }

pub returns-in_default : goal.returns-in_default
returns-in_default c = record { is = finish-none _ _ (search rules) c.take.ensures.after; same_table = refl; same_list = refl }
