-- `judge::turn` meets its contract, by the kind of the order.
use mathlib.Core.Path.{refl, ap}
use Rattle.model.specs.ListedOrders.{meant}
use Rattle.judge.proofs.Lines.{holds-flush, holds-barrier}
use Rattle.judge.proofs.turn.Goals as goal

pub returns-in-Flush-clause-holds : goal.returns-in-Flush-clause-holds
returns-in-Flush-clause-holds c =
    holds-flush _ _ _ _ _ c.requires.image_value _ c.apply_one.ensures _ _ (ap meant c.in-Flush.is) c.line_after.ensures

pub returns-in-Barrier-clause-holds : goal.returns-in-Barrier-clause-holds
returns-in-Barrier-clause-holds c =
    holds-barrier _ _ _ _ _ c.requires.image_value _ c.apply_one.ensures _ (ap meant c.in-Barrier.is) refl
