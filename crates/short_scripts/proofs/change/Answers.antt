-- `short_scripts::change` meets its contract.
use Rattle.short_scripts.proofs.Comparing.{change-inserts, change-deletes}
use Rattle.short_scripts.proofs.change.Goals as goal

pub returns-in-Insert : goal.returns-in-Insert
returns-in-Insert c = change-inserts _ _ _ c.from.ensures _ c.in-Insert.is

pub returns-in-Delete : goal.returns-in-Delete
returns-in-Delete c = change-deletes _ _ _ c.from.ensures _ c.in-Delete.is
