-- `recordings::ok` meets its contract.
use Rattle.std.proofs.Common.{◌∙◌}
use Rattle.recordings.proofs.RowLaws.{right-no, right-yes}
use Rattle.recordings.proofs.ok.Goals as goal

pub returns-then-pairs_ok : goal.returns-then-pairs_ok
returns-then-pairs_ok c = right-yes _ _ c.pairs_ok.ensures c.if-pairs_ok.true _ c.once.ensures

pub returns-else-pairs_ok : goal.returns-else-pairs_ok
returns-else-pairs_ok c = c.if-pairs_ok.false ∙ right-no _ _ c.pairs_ok.ensures c.if-pairs_ok.false
