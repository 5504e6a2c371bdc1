-- `insert::too_high` meets its contract.
use Rattle.insert.proofs.Testing.{root-level}
use Rattle.insert.proofs.too_high.Goals as goal

pub returns-then-run : goal.returns-then-run
returns-then-run c = root-level _ _ c.args.run _ c.if-run.true c.word.ensures
