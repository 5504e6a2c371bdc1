-- `sentinel_writes::delete_with` meets its contract.
use borrow.Author.Rules.{rules}
use Rattle.model.specs.Writes.{deletion}
use Rattle.sentinel_writes.proofs.delete_with.Goals as goal

pub with_words-requires-clause-makes : goal.with_words-requires-clause-makes
with_words-requires-clause-makes c = let a = c.args in
    (deletion a.collection a.key, a.dock, record { test = c.refusal-tested.ensures; does = λ p q p' q' answer met. search rules })
