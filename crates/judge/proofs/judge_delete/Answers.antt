-- `judge::judge_delete` meets its contract.
use mathlib.Core.Path.{refl, sym, ◌∙◌}
use Rattle.list_laws.proofs.Tools.{handed-on}
use Rattle.model.specs.declared.Refusal.TheVariants.{ChangeRefused}
use Rattle.model.proofs.Numbers.{refused-by}
use Rattle.model.specs.Writes.{deletion}
use Rattle.judge.proofs.Answers.{passed-tests, start-sound, refused-before, refused-change, judged-change}
use Rattle.judge.proofs.Changes.{suits, delete-refused, delete-accepted, delete-wanted}
use Rattle.judge.proofs.judge_delete.Goals as goal

pub returns-in_err-start : goal.returns-in_err-start
returns-in_err-start c = let a = c.args in
    let both = refused-before (deletion a.collection a.key) a.collection a.table.now a.list.now a.out.now refl
    (sym c.tests.ensures ∙ c.in_err-start.was) in
    record { value = rw (handed-on c.from_residual.ensures.1) both.0; out_after = both.1 }

pub has_key-requires : goal.has_key-requires
has_key-requires c = start-sound (passed-tests c.tests.ensures c.in_ok-start.was)

pub returns-then-not-has_key : goal.returns-then-not-has_key
returns-then-not-has_key c = let a = c.args in
    let b = passed-tests c.tests.ensures c.in_ok-start.was in
    let both = refused-change (deletion a.collection a.key) a.collection a.table.now a.list.now a.out.now refl _ b
    (delete-refused a.collection a.key a.table.now a.list.now _ _ b _ b.root _ c.has_key.ensures c.if-not-has_key.true) in
    record { value = sym (refused-by ChangeRefused) ∙ both.0; out_after = both.1 }

pub invariant_of-judge_copy : goal.invariant_of-judge_copy
invariant_of-judge_copy c = record { suits = suits (passed-tests c.tests.ensures c.in_ok-start.was) _ _ }

pub judge_copy-requires : goal.judge_copy-requires
judge_copy-requires c = let b = passed-tests c.tests.ensures c.in_ok-start.was in record { out_len = b.long; list_value = b.inside }

pub returns : goal.returns
returns c = let a = c.args in
    let b = passed-tests c.tests.ensures c.in_ok-start.was in
    let both = judged-change (deletion a.collection a.key) a.collection a.table.now a.list.now a.out.now refl _ b
    (delete-accepted a.collection a.key a.table.now a.list.now _ _ b _ b.root _ c.has_key.ensures c.if-not-has_key.false) _
    (delete-wanted a.collection a.key a.table.now a.list.now _ _ b) _ c.judge_copy.ensures.value _ c.judge_copy.ensures.out_after in
    record { value = both.0; out_after = both.1 }
