-- `shift::close` meets its contract.
use Rattle.orders.proofs.Rest.{room-as, stored-as}
use Rattle.shift.proofs.AtNode.{close-as}
use Rattle.shift.proofs.close.Goals as goal

pub close_gap-requires : goal.close_gap-requires
close_gap-requires c = room-as _ _ _ (close-as c.new-opened.ensures _ c.hidden_place-p.ensures.value) c.requires.room

pub returns : goal.returns
returns c = stored-as (close-as c.new-opened.ensures _ c.hidden_place-p.ensures.value) c.close_gap.ensures
