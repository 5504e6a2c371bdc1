-- `sentinel_writes::repair_with` meets its contract.
use borrow.Author.Rules.{rules}
use Rattle.model.specs.Writes.{repair}
use Rattle.sentinel_writes.proofs.repair_with.Goals as goal

pub with_words-requires-clause-makes : goal.with_words-requires-clause-makes
with_words-requires-clause-makes c = let a = c.args in
    (repair, a.dock, record { test = c.refusal_any-tested.ensures; does = λ p q p' q' answer met. search rules })
