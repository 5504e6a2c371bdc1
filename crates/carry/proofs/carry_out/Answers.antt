-- `carry::carry_out` meets its contract, by the tests in their order.
use Rattle.std.proofs.Common.{sym, ◌∙◌, rules}
use Rattle.list_laws.proofs.Tools.{handed-on}
use Rattle.model.proofs.Numbers.{passed-zero, failed-some, failed-with}
use Rattle.carry.proofs.Answers.{no-header, too-many, outside, done}
use Rattle.carry.proofs.carry_out.Goals as goal

pub returns-in_err-header : goal.returns-in_err-header
returns-in_err-header c =
    let e = sym c.header.ensures ∙ c.in_err-header.was in
    let both = no-header _ _ _ (failed-some _ e) in
    record { value = rw (handed-on c.from_residual.ensures.1) (sym (failed-with _ e) ∙ both.0); table_after = both.1 }

pub returns-then-list-c : goal.returns-then-list-c
returns-then-list-c c =
    let z = passed-zero _ (sym c.header.ensures ∙ c.in_ok-header.was) in
    let both = too-many _ _ _ z c.if-list-c.true in
    record { value = both.0; table_after = both.1 }

pub returns-then-not-all_inside : goal.returns-then-not-all_inside
returns-then-not-all_inside c =
    let z = passed-zero _ (sym c.header.ensures ∙ c.in_ok-header.was) in
    let both = outside _ _ _ z c.if-list-c.false _ c.all_inside.ensures (search rules) in
    record { value = both.0; table_after = both.1 }

pub apply_all-requires : goal.apply_all-requires
apply_all-requires c = search rules

pub returns : goal.returns
returns c =
    let z = passed-zero _ (sym c.header.ensures ∙ c.in_ok-header.was) in
    let both = done _ _ _ z c.if-list-c.false _ c.all_inside.ensures (search rules) _ c.apply_all.ensures in
    record { value = both.0; table_after = both.1 }
