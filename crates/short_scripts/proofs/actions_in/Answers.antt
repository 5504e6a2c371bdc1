-- `short_scripts::actions_in` meets its contract.
use Rattle.short_scripts.proofs.Words.{actions-cut}
use Rattle.short_scripts.proofs.actions_in.Goals as goal

pub returns : goal.returns
returns c = actions-cut c.args.words.now _
