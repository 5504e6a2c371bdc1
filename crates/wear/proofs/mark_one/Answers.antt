-- `wear::mark_one` meets its contract.
use Rattle.std.proofs.Common.{refl}
use Rattle.model.specs.SoundTest.{elem}
use Rattle.wear.proofs.Turns.{nothing-stored}
use Rattle.wear.proofs.Marking.{mark-below, mark-put}
use Rattle.wear.proofs.mark_one.Goals as goal

pub put-requires : goal.put-requires
put-requires c = mark-below c.args.order _ _ c.in-Store.is _ c.requires

pub returns-in-Store : goal.returns-in-Store
returns-in-Store c = mark-put c.args.order _ _ c.in-Store.is _ (mark-below c.args.order _ _ c.in-Store.is _ c.requires) _ c.put.ensures

pub returns-in_default : goal.returns-in_default
unfolding elem
returns-in_default c = λ w. rw (nothing-stored c.args.order c.in_default.not-Store) refl
