-- `search::come` meets its contract.
use mathlib.Core.Path.{sym, ◌∙◌}
use Rattle.search.proofs.Standing.{pass-off, seen-lost, not-read, come-on, come-level}
use Rattle.search.proofs.come.Goals as goal

pub returns-in_err-x : goal.returns-in_err-x
returns-in_err-x c = c.from_residual.ensures ∙ seen-lost _ _ _ _ (pass-off _ _ _ (not-read _ _ (sym c.read_on.ensures ∙ c.in_err-x.was)))

pub stand-requires-clause-n_value : goal.stand-requires-clause-n_value
stand-requires-clause-n_value c = let a = c.args in come-on a.table.now a.level a.n _ (sym c.read_on.ensures ∙ c.in_ok-x.was)

pub returns : goal.returns
returns c = let a = c.args in c.stand.ensures ∙ come-level a.table.now a.level a.n _ a.key (sym c.read_on.ensures ∙ c.in_ok-x.was)
