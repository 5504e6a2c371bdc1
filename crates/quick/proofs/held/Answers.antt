-- `quick::held` meets its contract.
use mathlib.Core.Path.{ap, ◌∙◌}
use Rattle.model.specs.declared.Node.{Node}
use Rattle.model.specs.Slots.{used}
use Rattle.model.specs.Search.{first_with}
use Rattle.slots.specs.Scan.{shown_from}
use Rattle.slots.specs.Held.{held_by}
use Rattle.quick.proofs.held.Goals as goal

pub returns : goal.returns
unfolding used
returns c = c.find.ensures ∙ ap (λ (x : Node). held_by (first_with c.args.key (shown_from x.left x.slots 0))) c.read-x.ensures
