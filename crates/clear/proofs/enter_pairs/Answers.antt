-- `clear::enter_pairs` meets its contract.
use Rattle.std.proofs.Common.{refl, ◌∙◌, arith}
use mathlib.Core.Bool.{false≢true}
use Rattle.list_laws.proofs.Tools.{handed-on}
use Rattle.clear.proofs.Entering.{holds-start, holds-pair, holds-all, down-end, down-next, down-ends}
use Rattle.clear.proofs.enter_pairs.Goals as goal

pub loop-i-init : goal.loop-i-init
loop-i-init c = let e = c.requires in (e.from_le_to, holds-start _ _ _ e.holds, refl)

pub returns-in_err-enter : goal.returns-in_err-enter
returns-in_err-enter c =
    rw (handed-on c.from_residual.ensures.1)
    (record {
      value = down-ends _ _ _ _ c.loop-i-test.true _ _ _ c.recording-number.ensures c.enter.ensures _
          c.in_err-enter.was ∙ c.loop-i.invariant.2;
      holds_2 = λ z. absurd (false≢true z);
    })

pub loop-i-preserved : goal.loop-i-preserved
loop-i-preserved c = let l = c.loop-i.invariant in
    let t = c.loop-i-test.true in
    let e = c.in_ok-enter.was in (
      omega arith,
      holds-pair _ _ _ _ _ _ _ l.1 (omega arith) c.loop-i.auto.i c.requires.to_in_bounds c.recording-number.ensures c.enter.ensures e,
      down-next _ _ _ _ t _ _ _ c.recording-number.ensures c.enter.ensures e ∙ l.2,
    )

pub returns : goal.returns
returns c = let l = c.loop-i.invariant in
    record { value = down-end _ _ _ _ c.loop-i-test.false ∙ l.2; holds_2 = λ z. holds-all _ _ _ _ _ (omega arith) l.1 }
