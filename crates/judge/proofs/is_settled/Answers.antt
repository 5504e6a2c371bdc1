-- `judge::is_settled` meets its contract.
use borrow.Author.Rules.{rules}
use Rattle.judge.proofs.Rest.{settled-by}
use Rattle.judge.proofs.is_settled.Goals as goal

pub returns : goal.returns
returns c = settled-by _ _ _ c.check.ensures _ (λ x p. search rules) c.is_some_and.ensures
