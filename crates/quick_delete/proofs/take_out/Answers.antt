-- `quick_delete::take_out` meets its contract.
use Rattle.quick_delete.proofs.Deleting.{out-room, stays-stored, free-there, free-room, free-stored}
use Rattle.quick_delete.proofs.take_out.Goals as goal

pub shift_out-requires-clause-room : goal.shift_out-requires-clause-room
shift_out-requires-clause-room c = out-room c.args.writer.now c.requires.takes c.requires.room

pub free_leaf-requires : goal.free_leaf-requires
free_leaf-requires c =
    let z = c.if-found.true in
    let f = free-there _ c.requires.takes c.requires.room z c.shift_out.ensures in
    record {
      p_value = f.parent;
      p_value_2 = f.plain;
      x_value = f.neighbour;
      room = free-room _ c.requires.takes c.requires.room z c.shift_out.ensures;
    }

pub returns-then-found : goal.returns-then-found
returns-then-found c = free-stored _ c.requires.takes c.requires.room c.if-found.true c.shift_out.ensures c.free_leaf.ensures

pub returns-else-found : goal.returns-else-found
returns-else-found c = stays-stored _ c.requires.takes c.requires.room c.if-found.false c.shift_out.ensures
