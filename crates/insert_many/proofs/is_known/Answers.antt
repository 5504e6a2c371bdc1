-- `insert_many::is_known` meets its contract.
use Rattle.std.proofs.Common.{sym, ◌∙◌}
use borrow.Author.Tests.{lt-leb}
use Rattle.two_laws.proofs.SearchTwo.{sound-head}
use Rattle.write.proofs.Rooted.{root-sound}
use Rattle.clear.proofs.Fresh.{first-new}
use Rattle.insert_many.proofs.Going.{known-pair}
use Rattle.insert_many.proofs.is_known.Goals as goal

pub returns-else-end-i : goal.returns-else-end-i
returns-else-end-i c = let a =
    c.args in lt-leb _ _ c.if-end-i.false ∙ sym (first-new _ a.pairs.now a.i a.end c.requires.new c.requires.i_in_bounds c.if-end-i.false)

pub root_of-root-requires : goal.root_of-root-requires
root_of-root-requires c = record { table_value = sound-head _ c.requires.table_value; table_value_2 = c.requires.table_value_2 }

pub has_recording-requires : goal.has_recording-requires
has_recording-requires c = root-sound _ _ _ c.root_of-root.ensures c.requires.table_value c.requires.table_value_2

pub returns-then-end-i : goal.returns-then-end-i
returns-then-end-i c = let a =
    c.args in known-pair a.collection a.table.now c.root_of-root.result c.root_of-root.ensures _ _ c.recording.ensures
    _ c.has_recording.ensures
