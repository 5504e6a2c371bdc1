-- `short_scripts::number_of` meets its contract.
use Rattle.std.proofs.Common.{sym, ◌∙◌}
use borrow.Author.Tests.{not-true, not-false}
use Rattle.model.specs.declared.Refusal.TheVariants.{BadScript}
use Rattle.model.proofs.Numbers.{refused-by}
use Rattle.model.specs.Scripts.{script_number}
use Rattle.short_scripts.proofs.number_of.Goals as goal

-- forms-requires

pub returns-then-not-forms : goal.returns-then-not-forms
unfolding script_number
returns-then-not-forms c = let e = sym c.forms.ensures ∙ not-true _ c.if-not-forms.true-raw in rw e (sym (refused-by BadScript))

pub rank-requires : goal.rank-requires
rank-requires c = sym c.forms.ensures ∙ not-false _ c.if-not-forms.false-raw

pub returns : goal.returns
unfolding script_number
returns c = let e = sym c.forms.ensures ∙ not-false _ c.if-not-forms.false-raw in
    rw (e, ← c.rank.ensures)
