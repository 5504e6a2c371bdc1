-- `shift::attach` meets its contract.
use Rattle.orders.proofs.Rest.{room-as, stored-as}
use Rattle.shift.proofs.AtNode.{attach-as}
use Rattle.shift.proofs.attach.Goals as goal

pub shift_in-requires : goal.shift_in-requires
shift_in-requires c =
    let t = c.table-table.ensures in
    record {
      n_value = c.requires.p_value;
      n_value_2 = c.requires.p_value_2;
      room = room-as _ _ _ (attach-as _ _ _ _ _ (rw t at c.word-b.ensures) (rw t at c.word-fence.ensures)) c.requires.room;
    }

pub returns : goal.returns
returns c =
    let t = c.table-table.ensures in
    stored-as (attach-as _ _ _ _ _ (rw t at c.word-b.ensures) (rw t at c.word-fence.ensures)) c.shift_in.ensures
