-- `sentinel_writes::set_class_with` meets its contract.
use borrow.Author.Rules.{rules}
use Rattle.model.specs.Writes.{class_change}
use Rattle.sentinel_writes.proofs.set_class_with.Goals as goal

pub with_words-requires-clause-makes : goal.with_words-requires-clause-makes
with_words-requires-clause-makes c = let a = c.args in (
  class_change a.collection a.key a.access,
  a.dock,
  record { test = c.refusal-tested.ensures; does = λ p q p' q' answer met. search rules },
)
