-- `marks::open_word` meets its contract.
use Rattle.std.proofs.Common.{ap, ◌∙◌, ⊎_elim, arith}
use Rattle.model.specs.Table.{at}
use Rattle.list_laws.proofs.Tools.{same-or-not}
use Rattle.marks.proofs.open_word.Goals as goal

pub loop-i-init : goal.loop-i-init
loop-i-init c = record { no-less = omega arith; full = λ j a b. absurd (omega arith) }

pub loop-i-preserved : goal.loop-i-preserved
loop-i-preserved c =
    let l = c.loop-i in
    record {
      no-less = omega (arith, l.invariant.no-less);
      full = λ j a b. ⊎_elim (λ q. ap (at c.args.marks.now) q ∙ c.if-marks-i.false)
          (λ q. l.invariant.full j a (omega (arith, b, q))) (same-or-not j l.i);
    }
