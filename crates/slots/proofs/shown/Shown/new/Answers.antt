-- `slots::Shown::new` meets its contract.
use Rattle.std.proofs.Common.{arith}
use Rattle.slots.proofs.Shows.{shown-half}
use Rattle.slots.proofs.shown.Shown.new.Goals as goal

pub returns-clause-bound : goal.returns-clause-bound
returns-clause-bound c = omega (arith, shown-half c.args.left c.args.slots.now)
