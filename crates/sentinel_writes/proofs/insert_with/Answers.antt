-- `sentinel_writes::insert_with` meets its contract.
use borrow.Author.Rules.{rules}
use Rattle.model.specs.Writes.{insertion}
use Rattle.sentinel_writes.proofs.insert_with.Goals as goal

pub with_words-requires-clause-makes : goal.with_words-requires-clause-makes
with_words-requires-clause-makes c = let a = c.args in (
  insertion a.collection a.key a.recording a.access,
  a.dock,
  record { test = c.refusal-tested.ensures; does = λ p q p' q' answer met. search rules },
)
