-- `search::look` meets its contract.
use Rattle.search.proofs.Standing.{looked}
use Rattle.search.proofs.look.Goals as goal

pub returns : goal.returns
returns c = looked _ _ c.args.read _ _ _ c.scan-seen.ensures.way_value c.scan-seen.ensures.held_value c.then_some.ensures
