-- `insert::may_insert` meets its contract.
use Rattle.two_laws.proofs.SearchTwo.{sound-head}
use Rattle.write.proofs.Rooted.{root-sound}
use Rattle.insert.proofs.Testing.{found-here}
use Rattle.insert.proofs.may_insert.Goals as goal

pub root_of-requires : goal.root_of-requires
root_of-requires c = record { table_value = sound-head _ c.requires.table_value_2; table_value_2 = c.requires.table_value }

pub has_recording-known-requires : goal.has_recording-known-requires
has_recording-known-requires c = root-sound _ _ _ c.root_of.ensures c.requires.table_value_2 c.requires.table_value

pub may_insert_known-requires : goal.may_insert_known-requires
may_insert_known-requires c = record {
  table_value = c.requires.table_value;
  table_value_2 = c.requires.table_value_2;
  count_value = c.requires.count_value;
  known_value = found-here c.args.x.collection
      c.args.table.now _ c.root_of.ensures _ _ c.has_recording-known.ensures;
}
