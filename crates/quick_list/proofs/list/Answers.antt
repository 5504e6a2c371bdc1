-- `quick_list::list` meets its contract, by the tests in their order and the way that they find.
use Rattle.std.proofs.Common.{ap, sym, ◌∙◌}
use Rattle.list_laws.proofs.Tools.{handed-on}
use Rattle.model.specs.Results.{answer_number}
use Rattle.way.proofs.Walking.{along-low}
use Rattle.quick_list.proofs.Answers.{refused, done}
use Rattle.quick_list.proofs.list.Goals as goal

pub returns-in_err-way : goal.returns-in_err-way
returns-in_err-way c =
    let both = refused _ _ _ _ _ _ _ (ap answer_number (sym c.in_err-way.was) ∙ c.begin.ensures.number) in
    record { value = rw (handed-on c.from_residual.ensures.1) both.0; out_after = both.1 }

pub on_level-first-requires : goal.on_level-first-requires
on_level-first-requires c = along-low (c.begin.ensures.way _ c.in_ok-way.was)

pub returns : goal.returns
returns c =
    let both = done _ _ _ _ _ _ _ _ _ _ (ap answer_number (sym c.in_ok-way.was) ∙ c.begin.ensures.number)
    (c.begin.ensures.way _ c.in_ok-way.was) c.on_level-first.ensures c.list_from.ensures in
    record { value = both.0; out_after = both.1 }
