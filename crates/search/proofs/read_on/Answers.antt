-- `search::read_on` meets its contract.
use mathlib.Core.Path.{sym, ◌∙◌}
use Rattle.search.proofs.Standing.{read-out, read-in}
use Rattle.search.proofs.read_on.Goals as goal

pub returns-then-not-has : goal.returns-then-not-has
returns-then-not-has c = read-out _ _ _ c.requires (sym c.has.ensures ∙ c.if-not-has.true)

pub returns : goal.returns
returns c = read-in _ _ _ _ _ c.requires (sym c.has.ensures ∙ c.if-not-has.false) c.read-x.ensures c.then_some.ensures
