-- `judge::judge_insert` meets its contract.
use Rattle.std.proofs.Common.{sym, refl, ◌∙◌, arith}
use Rattle.list_laws.proofs.Tools.{handed-on}
use Rattle.model.specs.declared.Refusal.TheVariants.{ChangeRefused}
use Rattle.model.proofs.Numbers.{refused-by}
use Rattle.model.specs.Writes.{insertion}
use Rattle.two_laws.proofs.SameTwo.{settled-sound}
use Rattle.judge.proofs.Answers.{passed-tests, start-sound, refused-before, refused-change, judged-change}
use Rattle.judge.proofs.Changes.{suits, insert-refused, insert-accepted, insert-low, insert-wanted}
use Rattle.judge.proofs.judge_insert.Goals as goal

pub returns-in_err-start : goal.returns-in_err-start
returns-in_err-start c = let a = c.args in
    let both = refused-before (insertion a.collection a.key a.recording a.access) a.collection a.table.now a.list.now a.out.now refl
    (sym c.tests.ensures ∙ c.in_err-start.was) in
    record { value = rw (handed-on c.from_residual.ensures.1) both.0; out_after = both.1 }

pub full_run-run-requires : goal.full_run-run-requires
full_run-run-requires c = start-sound (passed-tests c.tests.ensures c.in_ok-start.was)

pub may_insert-allowed-requires : goal.may_insert-allowed-requires
may_insert-allowed-requires c = let b = passed-tests c.tests.ensures c.in_ok-start.was in
    record { table_value = b.collection; table_value_2 = settled-sound _ b.settles; count_value = b.reached }

pub returns-then-is_err : goal.returns-then-is_err
returns-then-is_err c = let a = c.args in
    let b = passed-tests c.tests.ensures c.in_ok-start.was in
    let z = insert-refused a.collection a.key a.recording a.access a.table.now a.list.now _ _ b _ _ b.root c.full_run-run.ensures
    c.may_insert-allowed.ensures
    (sym c.is_err.ensures.value ∙ c.if-is_err.true) in
    let both = refused-change (insertion a.collection a.key a.recording a.access) a.collection a.table.now
    a.list.now a.out.now refl _ b z in
    record { value = sym (refused-by ChangeRefused) ∙ both.0; out_after = both.1 }

pub join-requires : goal.join-requires
join-requires c = let a = c.args in
    let b = passed-tests c.tests.ensures c.in_ok-start.was in
    let n = insert-accepted a.collection a.key a.recording a.access a.table.now a.list.now _ _ b _ _ b.root c.full_run-run.ensures
    c.may_insert-allowed.ensures
    (sym c.is_err.ensures.value ∙ c.if-is_err.false) in
    let low = insert-low a.collection a.key a.recording a.access a.table.now a.list.now _ _ b n in
    record { recording_bound = low.0; access_bound = omega (arith, low.1) }

pub invariant_of-judge_copy : goal.invariant_of-judge_copy
invariant_of-judge_copy c = record { suits = suits (passed-tests c.tests.ensures c.in_ok-start.was) _ _ }

pub judge_copy-requires : goal.judge_copy-requires
judge_copy-requires c = let b = passed-tests c.tests.ensures c.in_ok-start.was in record { out_len = b.long; list_value = b.inside }

pub returns : goal.returns
returns c = let a = c.args in
    let b = passed-tests c.tests.ensures c.in_ok-start.was in
    let n = insert-accepted a.collection a.key a.recording a.access a.table.now a.list.now _ _ b _ _ b.root c.full_run-run.ensures
    c.may_insert-allowed.ensures
    (sym c.is_err.ensures.value ∙ c.if-is_err.false) in
    let both = judged-change (insertion a.collection a.key a.recording a.access) a.collection a.table.now a.list.now a.out.now refl _ b n _
    (insert-wanted a.collection a.key a.recording a.access a.table.now a.list.now _ _ b n _ c.join.ensures) _ c.judge_copy.ensures.value _
    c.judge_copy.ensures.out_after in
    record { value = both.0; out_after = both.1 }
