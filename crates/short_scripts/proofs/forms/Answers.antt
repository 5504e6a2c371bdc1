-- `short_scripts::forms` meets its contract.
use Rattle.std.proofs.Common.{◌≡◌, length, sym, ap, ◌∙◌, arith, rules}
use borrow.Author.Tests.{lt-leb}
use Rattle.std.proofs.lemmas.Bool.{true≢false}
use Rattle.short_scripts.proofs.Words.{within, form-past, form-other, form-long}
use Rattle.short_scripts.proofs.forms.Goals.{then-count-le4, else-count-le4}
use Rattle.short_scripts.proofs.forms.Goals as goal

pub returns-then-none_above : goal.returns-then-none_above
returns-then-none_above c = let l : length c.args.words ≡ 5 = search rules in elim c.if-count-le4.branch [
  | then-count-le4 w ↦
      form-past c.args.words w.if-count-le4.true _ (w.none_above.ensures ∙ ap (within 5) w.actions_in.ensures)
      (sym w.value-is ∙ c.if-none_above.true) _ (omega arith) _
      c.none_above-then-none_above.ensures
  | else-count-le4 w ↦ absurd (true≢false (sym c.if-none_above.true ∙ w.value-is ∙ lt-leb _ _ w.if-count-le4.false))
]

pub returns-else-none_above : goal.returns-else-none_above
returns-else-none_above c = elim c.if-count-le4.branch [
  | then-count-le4 w ↦ w.value-is
      ∙ form-other c.args.words w.if-count-le4.true _ (w.none_above.ensures ∙ ap (within 5) w.actions_in.ensures)
      (sym w.value-is ∙ c.if-none_above.false)
  | else-count-le4 w ↦ c.if-none_above.false ∙ form-long c.args.words w.if-count-le4.false
]
