-- `shift::Opened::new` meets its contract.
use Rattle.shift.proofs.AtNode.{starts}
use Rattle.shift.proofs.Opened.new.Goals as goal

pub returns : goal.returns
returns c = let t = c.table-table.ensures in record
    { start_is = starts _ _ _ c.requires (rw t at c.start.ensures); node_is = rw t at c.read.ensures }
