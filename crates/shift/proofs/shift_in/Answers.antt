-- `shift::shift_in` meets its contract.
use Rattle.orders.proofs.Rest.{room-as, stored-as}
use Rattle.shift.proofs.AtNode.{shift-in-as}
use Rattle.shift.proofs.shift_in.Goals as goal

pub slot_in-requires : goal.slot_in-requires
slot_in-requires c = room-as _ _ _ (shift-in-as c.new.ensures c.requires.n_value_2 _ _) c.requires.room

pub returns : goal.returns
returns c = stored-as (shift-in-as c.new.ensures c.requires.n_value_2 _ _) c.slot_in.ensures
