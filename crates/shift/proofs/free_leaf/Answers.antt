-- `shift::free_leaf` meets its contract.
use Rattle.std.proofs.Common.{arith, ◌≡◌, ◌+◌, ◌++◌, ◌∷◌, []}
use Rattle.model.specs.Orders.{put}
use Rattle.model.specs.Writes.{free_stores}
use Rattle.shift.specs.Stores.{slot_out}
use Rattle.orders.proofs.Rooms.{room-first}
use Rattle.orders.proofs.Rest.{room-as, stored-as, then-room, then-stored, makes-size}
use Rattle.shift.proofs.Freeing.{free-as}
use Rattle.shift.proofs.free_leaf.Goals.{After-start-w}
use Rattle.shift.proofs.free_leaf.Goals as goal

-- the stores, by what was read before the first of them
stores-at : (c : After-start-w) → let a = c.args in
    free_stores a.writer.now.table.now a.p a.x ≡ slot_out c.new-parent.result c.word-fence.result
    ++ (put (c.start-w.result + 1) c.word-sibling.result ∷ [])
stores-at c =
    let t = c.table-table.ensures in
    let r = c.requires in
    free-as c.new-parent.ensures r.p_value_2 _ _ _ _ _ (rw t at c.word-fence.ensures) (rw t at c.word-sibling.ensures)
    c.place-neighbour.ensures r.x_value (rw c.table.ensures at c.start-w.ensures)

pub slot_out-requires : goal.slot_out-requires
slot_out-requires c =
    room-first _ _ _ (room-as _ _ _ (stores-at (goal.at.slot_out-requires c).After-start-w) c.requires.room)

pub overflow_add-w : goal.overflow_add-w
overflow_add-w c =
    omega (
      arith,
      (then-room _ _ c.slot_out.ensures
          (room-as _ _ _ (stores-at (goal.at.overflow_add-w c).After-start-w) c.requires.room)).inside.0,
      (makes-size _ c.slot_out.ensures).0,
      c.well_formed,
    )

pub store-requires : goal.store-requires
store-requires c =
    then-room _ _ c.slot_out.ensures (room-as _ _ _ (stores-at (goal.at.store-requires c).After-start-w) c.requires.room)

pub returns : goal.returns
returns c =
    stored-as (stores-at (goal.at.returns c).After-start-w) (then-stored _ _ c.slot_out.ensures c.store.ensures)
