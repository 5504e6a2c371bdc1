-- `search::down` meets its contract.
use Rattle.search.proofs.Standing.{down-read}
use Rattle.search.proofs.down.Goals as goal

pub returns : goal.returns
returns c = let a = c.args in
    down-read a.table.now a.m a.key c.read-x.result _ c.read-x.ensures c.scan.ensures.way_value
