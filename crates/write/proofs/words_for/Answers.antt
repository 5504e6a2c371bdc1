-- `write::words_for` meets its contract.
use mathlib.Core.Path.{sym, ◌∙◌}
use Rattle.write.proofs.Judging.{words-ordered, words-unordered}
use Rattle.write.proofs.words_for.Goals as goal

pub returns-in-Ordered : goal.returns-in-Ordered
returns-in-Ordered c = words-ordered _ (sym c.from.ensures ∙ c.in-Ordered.is)

pub returns-in-Unordered : goal.returns-in-Unordered
returns-in-Unordered c = words-unordered _ (sym c.from.ensures ∙ c.in-Unordered.is)
