-- `sentinels::fence_on` meets its contract.
use mathlib.Core.Path.{sym, ◌∙◌}
use Rattle.sentinels.proofs.Searching.{fence-out, fence-in}
use Rattle.sentinels.proofs.fence_on.Goals as goal

pub returns-then-not-has : goal.returns-then-not-has
returns-then-not-has c = fence-out c.args.table.now c.args.level c.args.n c.requires (sym c.has.ensures ∙ c.if-not-has.true)

pub returns : goal.returns
returns c =
    c.then_some.ensures
    ∙ fence-in c.args.table.now c.args.level c.args.n c.requires (sym c.has.ensures ∙ c.if-not-has.false) _ _
    c.word.ensures c.word-2.ensures
