-- `reach::moved` meets its contract, by the test that led to each return.
use mathlib.Core.Path.{sym, ◌∙◌}
use Rattle.reach.proofs.Descent.{moved-here, moved-right}
use Rattle.reach.proofs.moved.Goals as goal

pub returns-then-keeps : goal.returns-then-keeps
returns-then-keeps c = moved-here _ _ _ _ c.word-sibling.ensures _ c.word.ensures (sym c.keeps.ensures ∙ c.if-keeps.true)

pub returns-else-keeps : goal.returns-else-keeps
returns-else-keeps c = moved-right _ _ _ _ c.word-sibling.ensures _ c.word.ensures (sym c.keeps.ensures ∙ c.if-keeps.false)
