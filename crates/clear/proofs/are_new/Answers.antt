-- `clear::are_new` meets its contract.
use Rattle.std.proofs.Common.{true, false, sym, ap, ◌∙◌}
use mathlib.Core.Bool.{false≢true}
use Rattle.std.specs.Prelude.{is_ok}
use Rattle.numbers.specs.Cells.{Outcome}
use Rattle.clear.proofs.Entering.{holds-none, new-not, new-all}
use Rattle.clear.proofs.Fresh.{all-new}
use Rattle.clear.proofs.are_new.Goals as goal

pub enter_pairs-requires : goal.enter_pairs-requires
enter_pairs-requires c = let e = c.requires in record { holds = holds-none; from_le_to = e.from_le_to; to_in_bounds = e.to_in_bounds }

pub returns-else-is_ok : goal.returns-else-is_ok
returns-else-is_ok c = let e = c.enter_pairs.ensures in
    let answer = c.is_ok.ensures.value ∙ ap (λ (o : Outcome). is_ok o.answer) e.value in
    record {
      value = c.if-is_ok.false ∙ new-not _ _ _ _ _ _ answer (ap (λ (o : Outcome). o.cells) e.value) c.if-is_ok.false;
      new = λ z. absurd (false≢true (sym c.if-is_ok.false ∙ z));
    }

pub returns-then-is_ok : goal.returns-then-is_ok
returns-then-is_ok c = let e = c.enter_pairs.ensures in
    let answer = c.is_ok.ensures.value ∙ ap (λ (o : Outcome). is_ok o.answer) e.value in
    record {
      value = new-all _ _ _ _ _ _ answer (ap (λ (o : Outcome). o.cells) e.value) c.if-is_ok.true _ c.leaves_off.ensures;
      new = λ q. all-new _ _ _ _ c.requires.root_value (e.holds_2 (sym c.is_ok.ensures.value ∙ c.if-is_ok.true)) c.leaves_off.ensures q;
    }
