-- `shift::cut_attach` meets its contract.
use mathlib.Core.Path.{◌∙◌}
use Rattle.orders.proofs.Rooms.{room-first}
use Rattle.orders.proofs.Rest.{room-as, stored-as, then-room, then-stored}
use Rattle.shift.proofs.AtNode.{attach-as, shift-in-as}
use Rattle.shift.proofs.cut_attach.Goals as goal

pub cut_off-requires : goal.cut_off-requires
cut_off-requires c = record { a_value = c.requires.a_value; a_value_2 = c.requires.a_value_2; room = room-first _ _ _ c.requires.room }

pub slot_in-requires : goal.slot_in-requires
slot_in-requires c =
    let t = c.table-table.ensures in
    let r = c.requires in
    room-as _ _ _ (attach-as _ _ _ _ _ (rw t at c.word-b.ensures) (rw t at c.word-fence.ensures)
    ∙ shift-in-as c.new-parent.ensures r.p_value_2 _ _)
    (then-room _ _ c.cut_off.ensures r.room)

pub returns : goal.returns
returns c =
    let t = c.table-table.ensures in
    then-stored _ _ c.cut_off.ensures
    (stored-as (attach-as _ _ _ _ _ (rw t at c.word-b.ensures) (rw t at c.word-fence.ensures)
    ∙ shift-in-as c.new-parent.ensures c.requires.p_value_2 _ _) c.slot_in.ensures)
