-- `printer::main` starts with document 01's table and list.
use mathlib.Core.Path.{ap₂, ◌∙◌}
use Rattle.script.specs.Spoken.{desk_of}
use Rattle.printer.proofs.main.Goals as goal

pub read_input-requires : goal.read_input-requires
read_input-requires c = c.new-session.ensures.desk ∙ ap₂ desk_of c.first_table-table.ensures c.first_list-list.ensures
