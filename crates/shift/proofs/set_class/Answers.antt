-- `shift::set_class` meets its contract.
use Rattle.std.proofs.Common.{arith}
use Rattle.orders.proofs.Rest.{room-as, stored-as}
use Rattle.shift.proofs.AtNode.{place-inside, class-as}
use Rattle.shift.proofs.set_class.Goals as goal

pub bounds-opened-at : goal.bounds-opened-at
bounds-opened-at c = let r =
    c.requires in omega (arith, place-inside c.new-opened.ensures r.n_value_2 _ _ c.place-at.ensures.value r.n_in_bounds)

pub put-requires : goal.put-requires
put-requires c =
    let r = c.requires in
    room-as _ _ _ (class-as c.new-opened.ensures r.n_value_2 _ _ c.place-at.ensures.value r.n_in_bounds _ _ c.with_class-x.ensures) r.room

pub returns : goal.returns
returns c =
    let r = c.requires in
    stored-as (class-as c.new-opened.ensures r.n_value_2 _ _ c.place-at.ensures.value r.n_in_bounds _ _ c.with_class-x.ensures)
    c.put.ensures
