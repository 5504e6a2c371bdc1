-- `shift::shift_out` meets its contract.
use Rattle.orders.proofs.Rest.{room-as, stored-as}
use Rattle.shift.proofs.AtNode.{shift-out-as}
use Rattle.shift.proofs.shift_out.Goals as goal

pub slot_out-requires : goal.slot_out-requires
slot_out-requires c = room-as _ _ _ (shift-out-as c.new.ensures c.requires.n_value_2 _) c.requires.room

pub returns : goal.returns
returns c = stored-as (shift-out-as c.new.ensures c.requires.n_value_2 _) c.slot_out.ensures
