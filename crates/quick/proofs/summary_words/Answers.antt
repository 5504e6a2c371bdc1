-- `quick::summary_words` meets its contract.
use native.Mathlib.Omega.{arith}
use Rattle.quick.proofs.Beginning.{summary-words-is, marks-few}
use Rattle.quick.proofs.summary_words.Goals as goal

pub overflow_add-result : goal.overflow_add-result
overflow_add-result c = omega (arith, marks-few _ _ c.mark_words.ensures c.requires, c.requires)

pub returns : goal.returns
returns c = summary-words-is _ _ c.mark_words.ensures
