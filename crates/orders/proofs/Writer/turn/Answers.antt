-- `orders::Writer::turn` meets its contract.
use Rattle.std.proofs.Common.{rules}
use Rattle.orders.proofs.Turning.{stays, becomes-as, turn-same, turn-other}
use Rattle.orders.proofs.Writer.turn.Goals as goal

pub returns-then-ne : goal.returns-then-ne
returns-then-ne c = becomes-as (turn-other _ _ (search rules)) c.flush.ensures

pub returns-else-ne : goal.returns-else-ne
returns-else-ne c = stays (turn-same _ _ (search rules))
