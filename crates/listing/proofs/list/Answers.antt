-- `listing::list` meets its contract, by the tests in their order.
use Rattle.std.proofs.Common.{sym, ◌∙◌}
use Rattle.list_laws.proofs.Tools.{handed-on}
use Rattle.model.specs.declared.Refusal.TheVariants.{NotSound}
use Rattle.model.proofs.Numbers.{refused-by}
use Rattle.node.proofs.Roots.{found-err}
use Rattle.listing.proofs.Answers.{no-collection, not-sound, done}
use Rattle.listing.proofs.list.Goals as goal

pub returns-in_err-root : goal.returns-in_err-root
returns-in_err-root c =
    let a = c.args in
    let f = found-err a.collection a.table.now (sym c.find_root.ensures ∙ c.in_err-root.was) in
    let both = no-collection a.collection a.table.now a.low a.high a.out.now f.0 in
    record { value = rw (handed-on c.from_residual.ensures.1) (sym f.1 ∙ both.0); out_after = both.1 }

pub returns-then-not-is_sound : goal.returns-then-not-is_sound
returns-then-not-is_sound c =
    let both = not-sound _ _ _ _ _ (sym c.find_root.ensures ∙ c.in_ok-root.was) (sym c.is_sound.ensures ∙ c.if-not-is_sound.true) in
    record { value = sym (refused-by NotSound) ∙ both.0; out_after = both.1 }

pub returns : goal.returns
returns c =
    let both = done _ _ _ _ _ (sym c.find_root.ensures ∙ c.in_ok-root.was) _ _ _ (sym c.is_sound.ensures ∙ c.if-not-is_sound.false)
    c.standing-first.ensures c.list_from.ensures in
    record { value = both.0; out_after = both.1 }
