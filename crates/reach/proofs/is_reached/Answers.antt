-- `reach::is_reached` meets its contract.
use Rattle.reach.proofs.Members.{stands-there}
use Rattle.reach.proofs.is_reached.Goals as goal

pub returns : goal.returns
returns c = stands-there _ _ _ _ _ _ c.requires c.word-level.ensures c.word-fence.ensures c.standing.ensures
