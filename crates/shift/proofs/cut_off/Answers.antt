-- `shift::cut_off` meets its contract.
use Rattle.orders.proofs.Rest.{room-as, stored-as}
use Rattle.shift.proofs.AtNode.{cut-as}
use Rattle.shift.proofs.cut_off.Goals as goal

pub put-requires : goal.put-requires
put-requires c =
    room-as _ _ _ (cut-as c.new-opened.ensures c.requires.a_value_2 _ _ (rw c.table.ensures at c.word-fence.ensures)
    c.place-p.ensures.value) c.requires.room

pub returns : goal.returns
returns c = stored-as
    (cut-as c.new-opened.ensures c.requires.a_value_2 _ _ (rw c.table.ensures at c.word-fence.ensures) c.place-p.ensures.value)
    c.put.ensures
